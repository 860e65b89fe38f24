-- Phase one of a row: block by block, and in a block sample by sample, what is left from here comes to the whole from the start.
use mathlib.Core.Path.{◌≡◌, refl, sym, ap, ◌∙◌}
use mathlib.Core.Bool.{Bool, true, false, cond}
use mathlib.Core.List.{List, [], ◌∷◌, ◌++◌, map, append-nil}
use Prim.Native.Nat.{ℕ, suc, ◌+◌, ◌-◌, ◌*◌, ◌≤◌, ◌<◌}
use native.Mathlib.Omega.{arith}
use native.Mathlib.Numerals.{add-one}
use lib.Dec.{ltb}
use lib.IntN.{ℤ}
use lib.ListN.{length, get_or, set, take, drop, length-set, take-append-drop}
use lib.Seq.{drop-cons, take-suc-set, append_snoc, drop-set-lt}
use borrow.Author.Tests.{lt-ltb, le-ltb}
use Rattle.std.specs.Int.{from_bool}
use Rattle.rules.specs.V0.{order, fresh_row, blocks_in}
use Rattle.rules.specs.Phases.{BlockRecord, block_records, row_records, store_samples, store_blocks, direction}
use Rattle.rules.specs.declared.reader.Bits.{Bits}
use Rattle.rules.specs.declared.v0.V0Row.{V0Row}
use Rattle.v0_parse.specs.Block.{with_residuals, whole_block}
use Rattle.read_window.specs.Window.{state_at}
use Rattle.v0_parse_window.specs.ByWindow.{HeadAt, Ends, residuals_of}
use Rattle.v0_parse_window.specs.declared.WindowHead.{WindowHead}
use Rattle.v0_parse_window.specs.declared.Plan.{Plan}
use Rattle.v0_parse_window.proofs.GroupLaws.{ByPosition, groups_are, block_read}
use Rattle.v0_parse.specs.Lengths.{Within, furthest}
use Rattle.v0_parse.specs.declared.block.ReadBlock.{ReadBlock}
use Rattle.v0_parse.proofs.BlockLaws.{block_within}
use Rattle.v0_parse.proofs.HeadLaws.{fresh_within}
use Rattle.v0_phase1.specs.Parsed.{Parsed}

-- ── A block's residuals ──

pub stored_in : (i w : ℕ) (x y : List ℕ) → i < w → x ≡ cond (ltb i w) x y
stored_in i w x y h = rw (lt-ltb i w h)

pub stored_past : (i w : ℕ) (x y : List ℕ) → w ≤ i → y ≡ cond (ltb i w) x y
stored_past i w x y h = rw (le-ltb i w h)

pub record Storing (w col : ℕ) (vs f₀ f : List ℕ) (k : ℕ) : Type 0 where
  pub below : k ≤ 16
  pub same_length : length f ≡ length f₀
  pub cells_are : store_samples 0 w col (drop k order) (drop k vs) f ≡ store_samples 0 w col order vs f₀

module _ (w col : ℕ) (vs : List ℕ) where
  pub storing_begun : (f : List ℕ) → Storing w col vs f f 0
  storing_begun f = record { below = omega arith; same_length = refl; cells_are = refl }

  pub storing_on : (f₀ f f' : List ℕ) (k c : ℕ) → k < 16 → length vs ≡ 16 → length f' ≡ length f → c ≡ get_or order k 0
      → f' ≡ cond (ltb (col + c) w) (set f (col + c) (get_or vs k 0)) f
      → Storing w col vs f₀ f k → Storing w col vs f₀ f' (k + 1)
  unfolding store_samples
  storing_on f₀ f f' k c h sixteen same ec q g =
      record { below = omega arith; same_length = same ∙ g.same_length; cells_are = sym left ∙ g.cells_are }
    where
      first : 0 + col + c ≡ col + c
      first = omega arith

      left : store_samples 0 w col (drop k order) (drop k vs) f ≡ store_samples 0 w col (drop (k + 1) order) (drop (k + 1) vs) f'
      left = rw (add-one k, drop-cons order k 0 h, drop-cons vs k 0 (omega arith), ← ec, first, ← q)

  pub storing_done : (f₀ f : List ℕ) (k : ℕ) → 16 ≤ k → length vs ≡ 16 → Storing w col vs f₀ f k → f ≡ store_samples 0 w col order vs f₀
  unfolding store_samples
  storing_done f₀ f k l sixteen g =
      let e : k ≡ 16 = omega (arith, g.below) in
      let g' : Storing w col vs f₀ f 16 = rw e at g in g'.cells_are

-- ── A block's residuals by fours ──

module _ (w col : ℕ) where
  store_one : (c i v : ℕ) (cs vs f : List ℕ) → i ≡ col + c → i < w
      → store_samples 0 w col (c ∷ cs) (v ∷ vs) f ≡ store_samples 0 w col cs vs (set f i v)
  unfolding store_samples
  store_one c i v cs vs f e l =
      let first : 0 + col + c ≡ i = omega arith in rw (first, ← e, lt-ltb i w l)

  store_none : (f : List ℕ) → store_samples 0 w col [] [] f ≡ f
  unfolding store_samples
  store_none f = refl

  store_fours : (c i : ℕ) (r cs vs f f' : List ℕ) → i ≡ col + c → i + 6 < w
      → f' ≡ set (set (set (set f i (get_or r 0 0)) (i + 2) (get_or r 1 0)) (i + 4) (get_or r 2 0)) (i + 6) (get_or r 3 0)
      → store_samples 0 w col (c ∷ (c + 2) ∷ (c + 4) ∷ (c + 6) ∷ cs) (get_or r 0 0 ∷ get_or r 1 0 ∷ get_or r 2 0 ∷ get_or r 3 0 ∷ vs) f
      ≡ store_samples 0 w col cs vs f'
  store_fours c i r cs vs f f' e l stored =
      store_one c i _ _ _ f e (omega arith)
      ∙ store_one (c + 2) (i + 2) _ _ _ _ (omega arith) (omega arith)
      ∙ store_one (c + 4) (i + 4) _ _ _ _ (omega arith) (omega arith)
      ∙ store_one (c + 6) (i + 6) _ _ _ _ (omega arith) l
      ∙ ap (store_samples 0 w col cs vs) (sym stored)

  -- The four groups of a block that was read by position, one after another, are the block's.
  pub groups_stored : {s : List ℕ} {q : ℕ} {h : WindowHead} {p : Plan} {a b c d : List ℕ} → ByPosition s q h p a b c d → (f₀ f₁ f₂ f₃ f₄ : List ℕ) → col + 16 ≤ w
      → f₁ ≡ set (set (set (set f₀ col (get_or a 0 0)) (col + 2) (get_or a 1 0)) (col + 4) (get_or a 2 0)) (col + 6) (get_or a 3 0)
      → f₂ ≡ set (set (set (set f₁ (col + 8) (get_or b 0 0)) (col + 8 + 2) (get_or b 1 0)) (col + 8 + 4) (get_or b 2 0)) (col + 8 + 6) (get_or b 3 0)
      → f₃ ≡ set (set (set (set f₂ (col + 1) (get_or c 0 0)) (col + 1 + 2) (get_or c 1 0)) (col + 1 + 4) (get_or c 2 0)) (col + 1 + 6) (get_or c 3 0)
      → f₄ ≡ set (set (set (set f₃ (col + 9) (get_or d 0 0)) (col + 9 + 2) (get_or d 1 0)) (col + 9 + 4) (get_or d 2 0)) (col + 9 + 6) (get_or d 3 0)
      → f₄ ≡ store_samples 0 w col order (residuals_of s q h) f₀
  groups_stored {a = a} {b = b} {c = c} {d = d} x f₀ f₁ f₂ f₃ f₄ l e₁ e₂ e₃ e₄ =
      sym
      (ap (λ r. store_samples 0 w col order r f₀) (sym (groups_are x))
      ∙ store_fours 0 col a _ _ f₀ f₁ (omega arith) (omega arith) e₁
      ∙ store_fours 8 (col + 8) b _ _ f₁ f₂ refl (omega arith) e₂
      ∙ store_fours 1 (col + 1) c _ _ f₂ f₃ refl (omega arith) e₃
      ∙ store_fours 9 (col + 9) d _ _ f₃ f₄ refl (omega arith) e₄
      ∙ store_none f₄)

-- ── A block of a row ──

-- A direction as a byte.
byte_of : (up : Bool) → from_bool up ≡ cond up 1 0
byte_of true = refl
byte_of false = refl

-- A block is parsed once its residuals and its direction are stored.
pub block_parsed : (s : List ℕ) (st : V0Row) (b : ReadBlock) (w k d : ℕ) (out out' dirs : List ℕ) → b ≡ whole_block s st
    → out' ≡ store_samples 0 w (k * 16) order b.residuals out → d ≡ from_bool b.up → Parsed s st w k out dirs b.row out' (set dirs k d)
block_parsed s st b w k d out out' dirs e eo ed = record {
  state = ap (λ r. r.row) e;
  residuals = eo ∙ ap (λ r. store_samples 0 w (k * 16) order r.residuals out) e;
  directions = ap (set dirs k) (ed ∙ byte_of b.up ∙ ap (λ r. cond r.up 1 0) e);
}

-- So is one by position, from a head and the residuals after it, once its state is made again.
pub position_parsed : {s : List ℕ} {base q p f : ℕ} {st : V0Row} {h : WindowHead} {w k d : ℕ} {out out' dirs : List ℕ} {b : Bits}
    → st.bits ≡ state_at s base q f → HeadAt s base q st.lengths h → Ends s base h p
    → out' ≡ store_samples 0 w (k * 16) order (residuals_of s base h) out → d ≡ from_bool h.up → b ≡ state_at s base p f
    → Parsed s st w k out dirs (record { lengths = h.lengths; bits = b }) out' (set dirs k d)
position_parsed {s} {st = st} {w = w} {k = k} {d = d} {out = out} {out' = out'} {dirs = dirs} es head ends eo ed eb =
    rw eb (block_parsed s st _ w k d out out' dirs (block_read es head ends) eo ed)

-- ── A row's blocks ──

left_suc : (n k : ℕ) → k < n → n - k ≡ suc (n - (k + 1))
left_suc n k h = omega arith

-- In a row of at most 1,024 blocks the lengths stay near enough to 0.
pub near_enough : (ls : List ℤ) (k : ℕ) → k < 1_024 → Within (15 + k) ls → Within furthest ls
near_enough ls k h near = record { each = λ j. omega (arith, near.each j) }

pub record Parsing (s : List ℕ) (w n : ℕ) (st₀ st : V0Row) (out₀ out dirs₀ dirs : List ℕ) (k : ℕ) : Type 0 where
  pub below : k ≤ n
  pub same_samples : length out ≡ length out₀
  pub same_dirs : length dirs ≡ length dirs₀
  pub near : Within (15 + k) st.lengths
  pub cells_are : store_blocks 0 w (k * 16) (block_records s (n - k) st) out ≡ store_blocks 0 w 0 (block_records s n st₀) out₀
  pub dirs_are : take k dirs ++ map direction (block_records s (n - k) st) ≡ map direction (block_records s n st₀)
  pub rest_is : drop n dirs ≡ drop n dirs₀

module _ (s : List ℕ) (w n : ℕ) where
  pub parsing_begun : (st : V0Row) (offset : ℕ) (out dirs : List ℕ) → st ≡ fresh_row 2 offset → Parsing s w n st st out out dirs dirs 0
  parsing_begun st offset out dirs e =
      let z : n - 0 ≡ n = omega arith in
      record {
        below = omega arith;
        same_samples = refl;
        same_dirs = refl;
        near = rw e (fresh_within 2 offset);
        cells_are = rw z;
        dirs_are = rw z;
        rest_is = refl;
      }

  blocks_left : (st : V0Row) (k : ℕ) → k < n → block_records s (n - k) st
      ≡ record { up = (whole_block s st).up; residuals = (whole_block s st).residuals } ∷ block_records s (n - (k + 1)) (whole_block s st).row
  unfolding block_records whole_block with_residuals
  blocks_left st k h = rw (left_suc n k h)

  pub parsing_on : (st₀ st st' : V0Row) (out₀ out out' dirs₀ dirs dirs' : List ℕ) (k : ℕ) → k < n → n ≤ length dirs → length out' ≡ length out
      → Parsed s st w k out dirs st' out' dirs' → Parsing s w n st₀ st out₀ out dirs₀ dirs k → Parsing s w n st₀ st' out₀ out' dirs₀ dirs' (k + 1)
  unfolding store_blocks
  parsing_on st₀ st st' out₀ out out' dirs₀ dirs dirs' k h enough same x g =
      let more : 15 + (k + 1) ≡ suc (15 + k) = omega arith in
      rw (x.state, x.directions)
      (record {
        below = omega arith;
        same_samples = same ∙ g.same_samples;
        same_dirs = length-set dirs k d ∙ g.same_dirs;
        near = rw more (block_within s st (15 + k) (omega arith) g.near);
        cells_are = sym samples_left ∙ g.cells_are;
        dirs_are = ap (λ xs. xs ++ map direction rest) taken ∙ append_snoc (take k dirs) d (map direction rest) ∙ sym dirs_left ∙ g.dirs_are;
        rest_is = drop-set-lt n dirs k d h ∙ g.rest_is;
      })
    where
      d : ℕ
      d = cond (whole_block s st).up 1 0

      rest : List BlockRecord
      rest = block_records s (n - (k + 1)) (whole_block s st).row

      samples_left : store_blocks 0 w (k * 16) (block_records s (n - k) st) out ≡ store_blocks 0 w ((k + 1) * 16) rest out'
      samples_left =
          let next : (k + 1) * 16 ≡ k * 16 + 16 = omega arith in
          rw (blocks_left st k h, next, x.residuals)

      dirs_left : take k dirs ++ map direction (block_records s (n - k) st) ≡ take k dirs ++ (d ∷ map direction rest)
      dirs_left = rw (blocks_left st k h)

      taken : take (k + 1) (set dirs k d) ≡ take k dirs ++ (d ∷ [])
      taken = rw (add-one k) (take-suc-set dirs k d (omega arith))

  pub parsing_done : (st₀ st : V0Row) (offset : ℕ) (out₀ out dirs₀ dirs : List ℕ) (k : ℕ) → n ≤ k → n ≡ blocks_in w → st₀ ≡ fresh_row 2 offset
      → Parsing s w n st₀ st out₀ out dirs₀ dirs k
      → (out ≡ store_blocks 0 w 0 (row_records s w 2 offset) out₀) × (dirs ≡ map direction (row_records s w 2 offset) ++ drop (blocks_in w) dirs₀)
  unfolding store_blocks block_records row_records
  parsing_done st₀ st offset out₀ out dirs₀ dirs k l en est g =
      let e : k ≡ n = omega (arith, g.below) in
      let g' : Parsing s w n st₀ st out₀ out dirs₀ dirs n = rw e at g in
      let none : n - n ≡ 0 = omega arith in
      let c = rw none at g'.cells_are in
      let d = rw (none, append-nil) at g'.dirs_are in
      rw (← en, ← est) (c, sym (take-append-drop n dirs) ∙ ap (λ xs. xs ++ drop n dirs) d ∙ ap (λ xs. map direction (block_records s n st₀) ++ xs) g'.rest_is)
