-- What fault 17 means for the map. A block of direction 1 in row 0 skips all its samples, one in row 1 those of odd columns. A place
-- that is skipped keeps its byte 1, unless a sample of row 0's last block that spilled over into row 1 had filled it. So 17 in row 0
-- means that the map has a byte with part 1, and so does 17 in row 1 from width 9 on, unless the width is 1 above a multiple of 16. At
-- the other widths it may mean nothing (Examples.antt).
use Prim.Native.Nat.{ℕ, zero, suc, ◌+◌, ◌*◌, ◌/◌, ◌%◌, ◌≤◌, ◌<◌}
use mathlib.Core.Bool.{Bool, true, false, cond, not}
use mathlib.Core.Path.{◌≡◌, refl, sym, ap, ◌∙◌}
use mathlib.Core.Logic.{◌≢◌, ◌⊎◌, by_cases, ⊎_elim}
use mathlib.Core.List.{List, ◌∷◌}
use native.Mathlib.Omega.{arith}
use native.Mathlib.Decide.{ℕ_discrete, dec_lt}
use native.Mathlib.Nat.{mul_comm, mul-le-mul_right}
use lib.Dec.{ltb, eqb}
use lib.ListN.{length, get_or, set, length-set, length-replicate, get_or-replicate}
use lib.Seq.{get_or-set_same, get_or-set_other, set_out}
use borrow.Author.Tests.{ltb-true, ltb-false, eqb-true, eqb-false}
use Rattle.rules.specs.declared.answer.Answer.{Answer}
use Rattle.rules.specs.declared.answer.Size.{Size}
use Rattle.rules.specs.declared.reader.Bits.{Bits}
use Rattle.rules.specs.declared.v0.Predictor.{Predictor}
use Rattle.rules.specs.declared.v0.Predictor.TheVariants.{Skipped, Constant, Sample}
use Rattle.rules.specs.declared.v0.V0Op.{V0Op}
use Rattle.rules.specs.declared.v0.V0Row.{V0Row}
use Rattle.rules.specs.declared.v0.V0Head.{V0Head}
use Rattle.rules.specs.Reader.{has_filler}
use Rattle.rules.specs.Frame.{cells, change_cells}
use Rattle.rules.specs.V0 as V0
use Rattle.rules.specs.Map.{old_part, with_filler, v0_marks, v0_map, all_old}
use Rattle.rules.proofs.Cells.{All, nil, more, all_append}
use Rattle.rules.proofs.Order.{all_order}
use Rattle.rules.proofs.Spill.{samples_all}
use Rattle.rules.proofs.Tests.{by-test}
use Rattle.rules.proofs.V0Blocks.{block, after}
use Rattle.rules.proofs.V0Cells.{write_all_length}
use Rattle.rules_clean.specs.Verdict.{all_fit, first_fault, block_fault, blocks_fault, row_fault, verdict, rows_verdict}
use Rattle.rules_clean.proofs.Verdicts.{First, fault_of, rows_first, never}

-- ── A place that is left alone ──

-- A block writes nothing at p.
abbrev Leaves : ℕ → V0.Block → Type 0
Leaves p b = All (λ o. o.place ≡ p → o.predictor ≡ Skipped) b.ops

-- The first part of the byte at p.
abbrev part : ℕ → List ℕ → ℕ
part p f = old_part (get_or f p 0)

tag : Predictor → ℕ
tag Skipped = 0
tag Constant = 1
tag (Sample p) = 2

put_kept : (p place : ℕ) (q : Predictor) (d : ℕ) (f : List ℕ) → (place ≡ p → q ≡ Skipped) → get_or (V0.put v0_marks place q d f) p 0 ≡ get_or f p 0
unfolding V0.put tag
put_kept p place Skipped d f h = refl
put_kept p place Constant d f h = get_or-set_other f place p _ 0 (λ e. never 0 (ap tag (h (sym e))))
put_kept p place (Sample r) d f h = get_or-set_other f place p _ 0 (λ e. never 1 (ap tag (h (sym e))))

apply_kept : (p : ℕ) {os : List V0Op} → All (λ o. o.place ≡ p → o.predictor ≡ Skipped) os → (f : List ℕ) → get_or (V0.apply v0_marks os f) p 0 ≡ get_or f p 0
unfolding V0.apply
apply_kept p nil f = refl
apply_kept p (more {a = o} h hs) f = apply_kept p hs _ ∙ put_kept p o.place o.predictor o.residual f h

-- A block's end leaves the first part as it is.
filled_part : (n q p : ℕ) (f : List ℕ) → part p (change_cells with_filler 0 n q f) ≡ part p f
unfolding change_cells
filled_part zero q p f = refl
filled_part (suc n) q p f =
    filled_part n (suc q) p _
    ∙ by_cases (ℕ_discrete p q)
    (λ e. by_cases (dec_lt q (length f))
    (λ l. rw (e, get_or-set_same f q (with_filler (get_or f q 0)) 0 l) (omega arith))
    (λ l. rw (set_out f q (with_filler (get_or f q 0)) (omega arith))))
    (λ e. ap old_part (get_or-set_other f q p _ 0 e))

write_kept : (p : ℕ) {bs : List V0.Block} → All (Leaves p) bs → (f : List ℕ) → part p (V0.write_all v0_marks bs f) ≡ part p f
unfolding V0.write_all V0.write
write_kept p nil f = refl
write_kept p (more {a = b} h hs) f = write_kept p hs _ ∙ end b.filler ∙ ap old_part (apply_kept p h f)
  where
    end : (t : Bool) → part p (cond t (change_cells with_filler 0 16 b.place (V0.apply v0_marks b.ops f)) (V0.apply v0_marks b.ops f)) ≡ part p (V0.apply v0_marks b.ops f)
    end true = filled_part 16 b.place p _
    end false = refl

-- ── Blocks elsewhere ──

module _ (s : List ℕ) (first : ℕ) (predict : ℕ → Bool → ℕ → Predictor) (p : ℕ) where
  block_elsewhere : (col : ℕ) (st : V0Row) → (first + col ≤ p → first + col + 16 ≤ p) → All (λ o. o.place ≡ p → o.predictor ≡ Skipped) (block s first predict col st).ops
  block_elsewhere col st h =
      samples_all (λ o. o.place ≡ p → o.predictor ≡ Skipped) s (first + col) _ (predict col _) V0.order _
      (all_order (λ c. (d : ℕ) → first + col + c ≡ p → predict col _ c ≡ Skipped) (λ c l d e. absurd (let q = h (omega arith) in omega arith)))

  -- Blocks that all lie before p, or all after it.
  blocks_elsewhere : (n col : ℕ) (st : V0Row) → (first + col ≤ p → first + col + 16 * n ≤ p) → All (Leaves p) (V0.blocks s first predict n col st).blocks
  unfolding V0.blocks
  blocks_elsewhere zero col st h = nil
  blocks_elsewhere (suc n) col st h =
      more (block_elsewhere col st (λ l. let q = h l in omega arith))
      (blocks_elsewhere n (col + 16) (after s first predict col st) (λ l. let q = h (omega arith) in omega arith))

-- ── A block of direction 1 ──

-- 17: the row is 0 or 1, and the block's direction is 1.
upward : (row : ℕ) (h : V0Head) (end : Bits) → block_fault row h end ≡ 17 → (row < 2) × (h.up ≡ true)
unfolding block_fault first_fault
upward row h end =
    by-test (ltb row 2)
    (λ q. rw q (by-test h.up
    (λ f. rw f (λ e. (ltb-true row 2 q, refl)))
    (λ f. rw f (λ e. absurd (later (not (all_fit h.row.lengths)) (has_filler end) e)))))
    (λ q. rw q (λ e. absurd (later (not (all_fit h.row.lengths)) (has_filler end) e)))
  where
    later : (v m : Bool) → first_fault false v m ≢ 17
    later true m e = let z : ◌≡◌ {A = ℕ} 18 17 = e in omega arith
    later false true e = let z : ◌≡◌ {A = ℕ} 19 17 = e in omega arith
    later false false e = never 16 (sym e)

upward_early : (s : List ℕ) (z : Size) (row n col : ℕ) (st : V0Row) → blocks_fault s z row n col st ≡ 17 → row < 2
unfolding blocks_fault
upward_early s z row zero col st e = absurd (never 16 (sym e))
upward_early s z row (suc n) col st e =
    by-test (eqb fault 0) (λ f. upward_early s z row n (col + 16) _ (rw f at e)) (λ f. (upward row _ _ (rw f at e)).0)
  where
    fault : ℕ
    fault = block_fault row (V0.head s st) (block s (row * z.width) (V0.predictor z row) col st).bits

    rest : ℕ
    rest = blocks_fault s z row n (col + 16) (after s (row * z.width) (V0.predictor z row) col st)

-- In a row whose blocks of direction 1 skip some sample, its number picked by the block's column.
module _ (s : List ℕ) (z : Size) (row : ℕ) (pick : ℕ → ℕ) (low : (col : ℕ) → pick col < 16)
    (skips : (col : ℕ) → V0.predictor z row col true (pick col) ≡ Skipped) where
  abbrev place_of : ℕ → ℕ
  place_of col = row * z.width + col + pick col

  -- One of n blocks from a column on, whose skipped sample no block writes.
  record Spot (n col : ℕ) (bs : List V0.Block) : Type 0 where
    block_col : ℕ
    number : ℕ
    number_in : number < n
    col_is : block_col ≡ col + 16 * number
    left : All (Leaves (place_of block_col)) bs

  upward_spot : (n col : ℕ) (st : V0Row) → blocks_fault s z row n col st ≡ 17 → Spot n col (V0.blocks s (row * z.width) (V0.predictor z row) n col st).blocks
  unfolding blocks_fault V0.blocks
  upward_spot zero col st e = absurd (never 16 (sym e))
  upward_spot (suc n) col st e = by-test (eqb fault 0) (λ t. further (upward_spot n (col + 16) next (rw t at e))) (λ t. at_once (rw t at e))
    where
      first : ℕ
      first = row * z.width

      h : V0Head
      h = V0.head s st

      next : V0Row
      next = after s first (V0.predictor z row) col st

      fault : ℕ
      fault = block_fault row h (block s first (V0.predictor z row) col st).bits

      here : V0.Block
      here = record { place = first + col; ops = (block s first (V0.predictor z row) col st).ops; filler = has_filler (block s first (V0.predictor z row) col st).bits }

      rest : List V0.Block
      rest = (V0.blocks s first (V0.predictor z row) n (col + 16) next).blocks

      further : Spot n (col + 16) rest → Spot (suc n) col (here ∷ rest)
      further p =
          let at = p.block_col in
          record {
            block_col = at;
            number = suc p.number;
            number_in = omega (arith, p.number_in);
            col_is = omega (arith, p.col_is);
            left = more (block_elsewhere s first (V0.predictor z row) (place_of at) col st (λ l. omega (arith, p.col_is))) p.left;
          }

      at_once : fault ≡ 17 → Spot (suc n) col (here ∷ rest)
      at_once e =
          let up = (upward row h _ e).1 in
          record {
            block_col = col;
            number = 0;
            number_in = omega arith;
            col_is = omega arith;
            left =
                more
                (samples_all (λ o. o.place ≡ place_of col → o.predictor ≡ Skipped) s (first + col) _ (V0.predictor z row col h.up) V0.order _
                (all_order (λ c. (d : ℕ) → first + col + c ≡ place_of col → V0.predictor z row col h.up c ≡ Skipped)
                (λ c l d q. let same : c ≡ pick col = omega arith in rw (up, same) (skips col))))
                (blocks_elsewhere s first (V0.predictor z row) (place_of col) n (col + 16) next (λ l. absurd (omega (arith, low col))));
          }

-- ── The exchange ──

-- A frame of n bytes, one of which has part 1.
pub record Marked (n : ℕ) (f : List ℕ) : Type 0 where
  pub long : length f ≡ n
  pub place : ℕ
  pub place_in : place < n
  pub old : old_part (get_or f place 0) ≡ 1

module _ (n : ℕ) where
  swap_marked : (i j : ℕ) (f : List ℕ) → i < n → j < n → Marked n f → Marked n (V0.swap v0_marks i j f)
  unfolding V0.swap
  swap_marked i j f li lj m = go (ℕ_discrete m.place i) (ℕ_discrete m.place j)
    where
      a : ℕ
      a = get_or f i 0

      b : ℕ
      b = get_or f j 0

      first : List ℕ
      first = set f i b

      long : length (set first j a) ≡ n
      long = length-set first j a ∙ length-set f i b ∙ m.long

      go : Dec (m.place ≡ i) → Dec (m.place ≡ j) → Marked n (set first j a)
      go (yes e) q =
          record { long = long; place = j; place_in = lj; old = rw (get_or-set_same first j a 0 (rw (length-set f i b, m.long) lj), sym e) m.old }
      go (no e) (yes q) =
          let apart : i ≢ j = λ r. e (q ∙ sym r) in
          record {
            long = long;
            place = i;
            place_in = li;
            old = rw (get_or-set_other first j i a 0 apart, get_or-set_same f i b 0 (rw m.long li), sym q) m.old;
          }
      go (no e) (no q) =
          record {
            long = long;
            place = m.place;
            place_in = m.place_in;
            old = rw (get_or-set_other first j m.place a 0 q, get_or-set_other f i m.place b 0 e) m.old;
          }

  columns_marked : (w row k col : ℕ) (f : List ℕ) → col + 2 * k ≤ w → (row + 1) * w + w ≤ n → Marked n f → Marked n (V0.exchange_columns v0_marks w row k col f)
  unfolding V0.exchange_columns
  columns_marked w row zero col f l room m = m
  columns_marked w row (suc k) col f l room m =
      columns_marked w row k (col + 2) _ (omega arith) room (swap_marked (row * w + col + 1) ((row + 1) * w + col) f (omega arith) (omega arith) m)

  rows_marked : (w h k row : ℕ) (f : List ℕ) → h * w ≡ n → row + 2 * k ≤ h → Marked n f → Marked n (V0.exchange_rows v0_marks w k row f)
  unfolding V0.exchange_rows
  rows_marked w h zero row f e l m = m
  rows_marked w h (suc k) row f e l m =
      let room : suc (row + 1) * w ≤ h * w = mul-le-mul_right w (omega arith) in
      rows_marked w h k (row + 2) _ e (omega arith) (columns_marked w row (w / 2) 0 f (omega arith) (omega arith) m)

-- ── A frame ──

module _ (s offsets : List ℕ) (z : Size) where
  abbrev row_blocks_of : ℕ → List V0.Block
  row_blocks_of r = (V0.row_blocks s z r (get_or offsets r 0)).blocks

  row_elsewhere : (p r : ℕ) → (r * z.width ≤ p → r * z.width + 16 * V0.blocks_in z.width ≤ p) → All (Leaves p) (row_blocks_of r)
  unfolding V0.row_blocks
  row_elsewhere p r h = blocks_elsewhere s (r * z.width) (V0.predictor z r) p (V0.blocks_in z.width) 0 _ (λ l. let q = h (omega arith) in omega arith)

  rows_leave : (p n r : ℕ) → ((q : ℕ) → r ≤ q → q < r + n → All (Leaves p) (row_blocks_of q)) → All (Leaves p) (V0.rows s offsets z n r)
  unfolding V0.rows
  rows_leave p zero r h = nil
  rows_leave p (suc n) r h =
      all_append (Leaves p) (h r (omega arith) (omega arith)) (rows_leave p n (suc r) (λ q l u. h q (omega arith) (omega arith)))

  -- A place below N that no block writes keeps its byte 1.
  leaves_marked : (p : ℕ) → p < cells z → ((r : ℕ) → r < z.height → All (Leaves p) (row_blocks_of r)) → Marked (cells z) (v0_map s offsets z)
  unfolding v0_map V0.frame V0.exchange
  leaves_marked p l h =
      rows_marked (cells z) z.width z.height (z.height / 2) 0 _ (mul_comm z.height z.width) (omega arith)
      (record {
        long = write_all_length v0_marks (V0.rows s offsets z z.height 0) (all_old z) ∙ length-replicate (cells z) 1;
        place = p;
        place_in = l;
        old =
            write_kept p (rows_leave p z.height 0 (λ q a b. h q (omega arith))) (all_old z)
            ∙ ap old_part (get_or-replicate {A = ℕ} (cells z) p 1 0 l);
      })

  -- 17 in a row whose blocks of direction 1 skip a sample within the row, which no earlier row's blocks reach.
  upward_row : (row : ℕ) (pick : ℕ → ℕ) → ((col : ℕ) → pick col < 16) → ((col : ℕ) → V0.predictor z row col true (pick col) ≡ Skipped)
      → ((col : ℕ) → col < z.width → col % 16 ≡ 0 → col + pick col < z.width)
      → ((r col : ℕ) → r < row → col < z.width → col % 16 ≡ 0 → r * z.width + 16 * V0.blocks_in z.width ≤ row * z.width + col + pick col)
      → row < z.height → fault_of s offsets z row ≡ 17 → Marked (cells z) (v0_map s offsets z)
  unfolding row_fault V0.row_blocks
  upward_row row pick low skips inside past l e =
      leaves_marked p in_frame (λ r lr. at r (dec_lt r row) (dec_lt row r))
    where
      w : ℕ
      w = z.width

      spot : Spot s z row pick low skips (V0.blocks_in w) 0 (V0.blocks s (row * w) (V0.predictor z row) (V0.blocks_in w) 0 (V0.fresh_row row (get_or offsets row 0))).blocks
      spot = upward_spot s z row pick low skips (V0.blocks_in w) 0 (V0.fresh_row row (get_or offsets row 0)) e

      col : ℕ
      col = spot.block_col

      col_in : (col < w) × (col % 16 ≡ 0)
      col_in = (omega (arith, spot.col_is, spot.number_in), omega (arith, spot.col_is))

      p : ℕ
      p = row * w + col + pick col

      in_row : col + pick col < w
      in_row = inside col col_in.0 col_in.1

      in_frame : p < cells z
      in_frame = let rows : suc row * w ≤ z.height * w = mul-le-mul_right w l in omega (arith, in_row, mul_comm z.height w)

      at : (r : ℕ) → Dec (r < row) → Dec (row < r) → All (Leaves p) (row_blocks_of r)
      at r (yes before) q = row_elsewhere p r (λ m. past r col before col_in.0 col_in.1)
      at r (no q) (yes later) =
          row_elsewhere p r (λ m. absurd (let rows : suc row * w ≤ r * w = mul-le-mul_right w later in omega (arith, in_row)))
      at r (no q) (no q') = let same : r ≡ row = omega arith in rw same spot.left

  -- In row 0 a block skips its first sample.
  upward_0 : 0 < z.height → fault_of s offsets z 0 ≡ 17 → Marked (cells z) (v0_map s offsets z)
  unfolding V0.predictor
  upward_0 = upward_row 0 (λ col. 0) (λ col. omega arith) (λ col. refl) (λ col l m. omega arith) (λ r col l. absurd (omega arith))

  -- In row 1 the sample at column 1 of a block; of the first block one that the samples spilled over from row 0 don't reach.
  upward_1 : 9 ≤ z.width → z.width % 16 ≢ 1 → 1 < z.height → fault_of s offsets z 1 ≡ 17 → Marked (cells z) (v0_map s offsets z)
  unfolding V0.predictor
  upward_1 wide odd = upward_row 1 pick low skips inside past
    where
      w : ℕ
      w = z.width

      picked : Bool → Bool → ℕ
      picked first narrow = cond first (cond narrow 7 15) 1

      pick : ℕ → ℕ
      pick col = picked (eqb col 0) (ltb w 16)

      low : (col : ℕ) → pick col < 16
      low col =
          by-test (eqb col 0)
          (λ f. rw f (by-test (ltb w 16) (λ e. rw e (omega arith)) (λ e. rw e (omega arith))))
          (λ e. rw e (omega arith))

      skips : (col : ℕ) → V0.predictor z 1 col true (pick col) ≡ Skipped
      skips col = by-test (eqb col 0) (λ f. rw f (by-test (ltb w 16) (λ e. rw e) (λ e. rw e))) (λ e. rw e)

      inside : (col : ℕ) → col < w → col % 16 ≡ 0 → col + pick col < w
      inside col l m =
          by-test (eqb col 0)
          (λ e. rw e (by-test (ltb w 16) (λ f. rw f (omega (arith, eqb-true col 0 e))) (λ f. rw f (omega (arith, eqb-true col 0 e, ltb-false w 16 f)))))
          (λ e. rw e (omega (arith, odd)))

      past : (r col : ℕ) → r < 1 → col < w → col % 16 ≡ 0 → r * w + 16 * V0.blocks_in w ≤ 1 * w + col + pick col
      past r col l m n =
          by-test (eqb col 0)
          (λ e. rw e (by-test (ltb w 16)
          (λ f. rw f (rw none (omega (arith, eqb-true col 0 e, ltb-true w 16 f))))
          (λ f. rw f (rw none (omega (arith, eqb-true col 0 e))))))
          (λ e. rw e (rw none (let some = eqb-false col 0 e in omega arith)))
        where
          none : r ≡ 0
          none = omega arith

  row_early : (row : ℕ) → fault_of s offsets z row ≡ 17 → row < 2
  unfolding row_fault
  row_early row e = upward_early s z row (V0.blocks_in z.width) 0 _ e

  -- 17 means that the map has a byte with part 1: in row 0 at every width, in row 1 from width 9 on, but for widths 17, 33, ..
  pub upward_marked : (verdict s offsets z).number ≡ 17 → ((verdict s offsets z).row ≡ 0) ⊎ ((9 ≤ z.width) × (z.width % 16 ≢ 1))
      → Marked (cells z) (v0_map s offsets z)
  unfolding verdict
  upward_marked e wide =
      by_cases (ℕ_discrete v.row 0)
      (λ q. upward_0 (omega (arith, first.row_below)) (rw q at fault))
      (λ q. let r : (9 ≤ z.width) × (z.width % 16 ≢ 1) = ⊎_elim (λ r. absurd (q r)) (λ r. r) wide in
      let one : v.row ≡ 1 = omega (arith, row_early v.row fault) in
      upward_1 r.0 r.1 (omega (arith, first.row_below)) (rw one at fault))
    where
      v : Answer
      v = rows_verdict s offsets z z.height 0

      first : First s offsets z z.height 0 v
      first = rows_first s offsets z z.height 0 (λ q. never 16 (sym e ∙ q))

      fault : fault_of s offsets z v.row ≡ 17
      fault = sym (ap (λ a. a.number) first.here) ∙ e
