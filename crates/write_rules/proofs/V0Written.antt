-- What the V0 parser makes of the blocks that the writer wrote: each has direction 0 and lengths of 0 to 15, none needs filler, and
-- their operations within the row leave the frame that was written as it is.
use Prim.Native.Nat.{ℕ, zero, suc, ◌+◌, ◌-◌, ◌*◌, ◌/◌, ◌%◌, ◌^◌, ◌<◌, ◌≤◌}
use mathlib.Core.Bool.{Bool, true, false}
use mathlib.Core.Path.{◌≡◌, refl, ap, ◌∙◌, subst}
use mathlib.Core.List.{List, [], ◌∷◌, ◌++◌, map}
use native.Mathlib.Omega.{arith}
use native.Mathlib.Nat.{mul-le-mul_right}
use lib.ListN.{length, get_or, set, get_or-map}
use lib.Seq.{set-get_or}
use lib.Dec.{ltb, eqb, lit<}
use lib.IntN.{ℤ, pos, negsuc}
use borrow.Author.Tests.{ltb-true, lt-ltb, eqb-true, eqb-false}
use Rattle.rules.specs.Limits.{sample_bound}
use Rattle.rules.specs.declared.answer.Size.{Size}
use Rattle.rules.specs.declared.reader.Bits.{Bits}
use Rattle.rules.specs.declared.v0.V0Head.{V0Head}
use Rattle.rules.specs.declared.v0.V0Op.{V0Op}
use Rattle.rules.specs.declared.v0.V0Row.{V0Row}
use Rattle.rules.specs.Reader.{signed, modulo}
use Rattle.rules.specs.Frame.{tabulate}
use Rattle.rules.specs.V0.{columns_back, predictor, length_of, length_bits, residual_bits, order, head, Ops, blocks, sample_kind, put, apply}
use Rattle.rules.specs.Phases.{late_predictor}
use Rattle.rules.proofs.Cells.{All, nil, more, all_get}
use Rattle.rules.proofs.Order.{all_order}
use Rattle.rules.proofs.Predictors.{predictor_late}
use Rattle.rules.proofs.Spill.{within, within_append}
use Rattle.rules.proofs.Tests.{clash, by-test}
use Rattle.rules.proofs.V0Blocks.{ops_of, block, after, EachBlock}
use Rattle.rules.proofs.V0Cells.{apply_append}
use Rattle.write_rules.specs.Writer.{bits_of, fields_bits, run, holds, lengths_for, length_for, block_bits, predicted, residual, blocks_bits, residuals}
use Rattle.write_rules.specs.Weight.{Short}
use Rattle.write_rules.proofs.Ahead.{Stream, Sees}
use Rattle.write_rules.proofs.Blocks.{opening_widths, opening, each_of_run, lengths_most, four_lengths, lengths_hold, block_parts}
use Rattle.write_rules.proofs.V0Seen.{Residual, op_for, SeesHead, sees_head, SeesSamples, sees_samples}

-- ── A block by its samples ──

-- A block's residuals in the order of the stream, by those of its samples; and where sample c stands in it.
abbrev in_stream : (ℕ → ℕ) → ℕ → ℕ
in_stream d k = d (get_or order k 0)

abbrev place : ℕ → ℕ
place c = c / 2 + 8 * (c % 2)

order_place : (c : ℕ) → c < 16 → get_or order (place c) 0 ≡ c
unfolding tabulate
order_place c l =
    eqb-true _ c
    (each_of_run (λ c. eqb (get_or order (place c) 0) c ≡ true) 16 0
    (more refl (more refl (more refl (more refl (more refl (more refl (more refl (more refl
    (more refl (more refl (more refl (more refl (more refl (more refl (more refl (more refl nil)))))))))))))))) c (omega arith) l)

abbrev sample_lengths : (ℕ → ℕ) → List ℕ
sample_lengths d = lengths_for (in_stream d)

-- The length of sample c.
abbrev sample_length : (ℕ → ℕ) → ℕ → ℕ
sample_length d c = get_or (sample_lengths d) (place c / 4) 0

-- A block's parts, and what follows it.
sample_parts : (d : ℕ → ℕ) (next rest : List Bool)
    → (block_bits (in_stream d) ++ next) ++ rest
    ≡ fields_bits opening_widths opening ++ (run (bits_of 4) (sample_lengths d) ++ (run (λ c. bits_of (sample_length d c) (d c)) order ++ (next ++ rest)))
unfolding lengths_for length_for tabulate run
sample_parts d next rest = block_parts (in_stream d) next rest

length_most : (d : ℕ → ℕ) (c : ℕ) → sample_length d c < 16
length_most d c = all_get (λ l. l < 16) (lengths_most (in_stream d)) (place c / 4) 0 (lit< tt)

lengths_four : (d : ℕ → ℕ) → length (map pos (sample_lengths d)) ≡ 4
unfolding lengths_for
lengths_four d = refl

-- Every residual is held by its length.
residual_held : (d : ℕ → ℕ) → ((c : ℕ) → Short (d c)) → (c : ℕ) → c < 16 → holds (sample_length d c) (d c) ≡ true
residual_held d short c l = rw (order_place c l) at (lengths_hold (in_stream d) (λ k. short (get_or order k 0)) (place c) (omega arith))

-- A length is read as it was written.
length_read : (d : ℕ → ℕ) (c : ℕ) → length_bits (length_of (map pos (sample_lengths d)) c) ≡ sample_length d c
unfolding length_of length_bits
length_read d c =
    let e : place c / 4 ≡ 2 * (c % 2) + c / 8 = omega arith in
    let l = length_most d c in
    rw (← e) (ap length_bits (get_or-map pos (sample_lengths d) (place c / 4) 0) ∙ omega arith)

held_back : (l d : ℕ) → holds l d ≡ true → modulo (signed l (d % 2 ^ l)) ≡ d
unfolding holds
held_back l d e = eqb-true (modulo (signed l (d % 2 ^ l))) d e

-- ── A block's residuals ──

module _ (w h : ℕ) (f : List ℕ) (small : All (λ a. a < sample_bound) f) (row : ℕ) (in_frame : row < h) where
  abbrev z : Size
  z = record { width = w; height = h }

  row_end : row * w + w ≤ h * w
  row_end = let q : suc row * w ≤ h * w = mul-le-mul_right w in_frame in omega arith

  get_small : (i : ℕ) → get_or f i 0 < sample_bound
  get_small i = all_get (λ a. a < sample_bound) small i 0 (lit< tt)

  predicted_small : (col c : ℕ) → predicted w f row col c < sample_bound
  unfolding predicted
  predicted_small col c = by-test (eqb col 0) (λ e. rw e (lit< tt)) (λ e. rw e (get_small (row * w + col - columns_back c)))

  pub residual_short : (col c : ℕ) → Short (residual w f row col c)
  unfolding residual
  residual_short col c =
      let l = get_small (row * w + col + c) in
      let l' = predicted_small col c in
      by-test (ltb (col + c) w)
      (λ e. rw e (record { below = omega arith; short = omega arith }))
      (λ e. rw e (record { below = lit< tt; short = lit< tt }))

  -- A sample of direction 0, also one past the row's end, is not skipped.
  level_predictor : (col c : ℕ) → col % 16 ≡ 0 → col < w → c < 16 → predictor z row col false c ≡ late_predictor w row col false c
  unfolding predictor late_predictor
  level_predictor col c whole q q' =
      by-test (eqb col 0)
      (λ e. rw e)
      (λ e. let n = eqb-false col 0 e in
      predictor_late z row col false c (λ up. absurd (clash up refl)) (omega (arith, row_end)))

  none_skipped : (col c : ℕ) (l : ℤ) → residual_bits (late_predictor w row col false c) l ≡ length_bits l
  unfolding late_predictor residual_bits
  none_skipped col c l = by-test (eqb col 0) (λ e. rw e) (λ e. rw e)

  -- What the parser needs of a block's residuals.
  residuals_seen : (col : ℕ) → col % 16 ≡ 0 → col < w
      → All (Residual (map pos (sample_lengths (residual w f row col))) (predictor z row col false) (sample_length (residual w f row col)) (residual w f row col)) order
  residuals_seen col whole q = all_order _ ready
    where
      d : ℕ → ℕ
      d = residual w f row col

      ready : (c : ℕ) → c < 16 → Residual (map pos (sample_lengths d)) (predictor z row col false) (sample_length d) d c
      ready c l =
          record {
            asked = ap (λ p. residual_bits p (length_of (map pos (sample_lengths d)) c)) (level_predictor col c whole q l)
                ∙ none_skipped col c (length_of (map pos (sample_lengths d)) c)
                ∙ length_read d c;
            least = omega (arith, length_most d c);
            back = held_back (sample_length d c) (d c) (residual_held d (residual_short col) c l);
          }

  -- ── Operations that leave the frame as it is ──

  -- A residual put into the frame that it is of leaves the frame as it is.
  put_idle : (col c : ℕ) → col + c < w → put sample_kind (row * w + col + c) (late_predictor w row col false c) (residual w f row col c) f ≡ f
  unfolding put residual predicted late_predictor
  put_idle col c q =
      rw (lt-ltb (col + c) w q)
      (by-test (eqb col 0)
      (λ e. rw e (ap (λ v. set f i v) (back (get_or f i 0) 128 (get_small i) (lit< tt)) ∙ set-get_or f i 0))
      (λ e. rw e (ap (λ v. set f i v) (back (get_or f i 0) (get_or f p 0) (get_small i) (get_small p)) ∙ set-get_or f i 0)))
    where
      back : (a p : ℕ) → a < 16_384 → p < 16_384 → (p + (a + 65_536 - p) % 65_536) % 65_536 ≡ a
      back a p l l' = omega arith

      i : ℕ
      i = row * w + col + c

      p : ℕ
      p = row * w + col - columns_back c

  -- So do all of a block's that lie within the row.
  block_idle : (col : ℕ) → col % 16 ≡ 0 → col < w → (cs : List ℕ) → All (λ c. c < 16) cs
      → apply sample_kind (within (row * w + w) (map (op_for (row * w + col) (predictor z row col false) (residual w f row col)) cs)) f ≡ f
  unfolding apply within
  block_idle col whole q [] nil = refl
  block_idle col whole q (c ∷ cs) (more l ls) =
      by-test (ltb (row * w + col + c) (row * w + w))
      (λ e. rw e (let i = ltb-true (row * w + col + c) (row * w + w) e in
      ap (apply sample_kind rest) (ap (λ p. put sample_kind (row * w + col + c) p (residual w f row col c) f) (level_predictor col c whole q l) ∙ put_idle col c (omega arith)) ∙ (block_idle col whole q cs ls)))
      (λ e. rw e (block_idle col whole q cs ls))
    where
      o : V0Op
      o = op_for (row * w + col) (predictor z row col false) (residual w f row col) c

      rest : List V0Op
      rest = within (row * w + w) (map (op_for (row * w + col) (predictor z row col false) (residual w f row col)) cs)

-- ── A row's blocks ──

-- A length of 0 to 16.
abbrev pub UpTo16 : ℤ → Type 0
UpTo16 (pos n) = n ≤ 16
UpTo16 (negsuc n) = ⊥

-- A block as it is written, by its head and the reader's state at its end.
pub record WrittenBlock (h : V0Head) (b : Bits) : Type 0 where
  pub level : h.up ≡ false
  pub lengths : All UpTo16 h.row.lengths
  pub no_filler : b.filler ≡ 0

all_upto : {xs : List ℕ} → All (λ x. x < 16) xs → All UpTo16 (map pos xs)
all_upto nil = nil
all_upto (more h hs) = more (lt_le h) (all_upto hs)
  where
    lt_le : {x : ℕ} → x < 16 → x ≤ 16
    lt_le h = omega arith

module _ (s : List ℕ) (st : Stream s) (w h : ℕ) (f : List ℕ) (small : All (λ a. a < sample_bound) f) (row : ℕ) (in_frame : row < h) where
  abbrev size : Size
  size = record { width = w; height = h }

  -- n blocks from a column on: each is as it was written, their operations within the row leave the frame as it is, and the reader
  -- sees what follows them.
  pub record SeesBlocks (n col : ℕ) (rs : V0Row) (rest : List Bool) : Type 0 where
    pub written : EachBlock s (row * w) (predictor size row) WrittenBlock n col rs
    pub idle : apply sample_kind (within (row * w + w) (ops_of (blocks s (row * w) (predictor size row) n col rs).blocks)) f ≡ f
    pub next_sees : Sees s (blocks s (row * w) (predictor size row) n col rs).bits rest

  pub sees_blocks : (n col : ℕ) (rs : V0Row) (rest : List Bool) → length rs.lengths ≡ 4 → col % 16 ≡ 0 → col + 16 * n ≤ w + 15
      → Sees s rs.bits (blocks_bits (residuals w f) row n col ++ rest) → SeesBlocks n col rs rest
  unfolding blocks blocks_bits within apply ops_of EachBlock
  sees_blocks zero col rs rest four whole fits q = record { written = tt; idle = refl; next_sees = q }
  sees_blocks (suc n) col rs rest four whole fits q =
      let k = sees_blocks n (col + 16) (after s (row * w) (predictor size row) col rs) rest four' (omega arith) (omega arith) M.next_sees in
      record {
        written = (
          record { level = H.level; lengths = rw H.lengths_are (all_upto (lengths_most (in_stream d))); no_filler = M.next_sees.no_filler },
          k.written,
        );
        idle = rw (within_append (row * w + w) x.ops, apply_append sample_kind, here) k.idle;
        next_sees = k.next_sees;
      }
    where
      d : ℕ → ℕ
      d = residual w f row col

      later : List Bool
      later = blocks_bits (residuals w f) row n (col + 16) ++ rest

      written : List Bool
      written = run (λ c. bits_of (sample_length d c) (d c)) order

      hd : V0Head
      hd = head s rs

      x : Ops
      x = block s (row * w) (predictor size row) col rs

      q' : Sees s rs.bits (fields_bits opening_widths opening ++ (run (bits_of 4) (sample_lengths d) ++ (written ++ later)))
      q' = subst (Sees s rs.bits) (sample_parts d (blocks_bits (residuals w f) row n (col + 16)) rest) q

      H : SeesHead s st (sample_lengths d) rs (written ++ later)
      H = sees_head s st (sample_lengths d) rs (written ++ later) (lengths_most (in_stream d)) (four_lengths (in_stream d)) four q'

      M : SeesSamples s st (row * w + col) hd.row.lengths (predictor size row col hd.up) d order hd.row.bits later
      M = rw (H.level, H.lengths_are)
          (sees_samples s st (row * w + col) (map pos (sample_lengths d)) (predictor size row col false) (sample_length d) d order hd.row.bits later
          (residuals_seen w h f small row in_frame col whole (omega arith)) H.next_sees)

      four' : length hd.row.lengths ≡ 4
      four' = ap length H.lengths_are ∙ lengths_four d

      here : apply sample_kind (within (row * w + w) x.ops) f ≡ f
      here = ap (λ os. apply sample_kind (within (row * w + w) os) f) M.ops_are
          ∙ rw H.level (block_idle w h f small row in_frame col whole (omega arith) order (all_order (λ c. c < 16) (λ c l. l)))
