-- What the V2 parser makes of the blocks that the writer wrote: none is refused, none needs filler, and over a frame that is the
-- written one before them they give the written one.
use Prim.Native.Nat.{ℕ, zero, suc, ◌+◌, ◌-◌, ◌*◌, ◌/◌, ◌%◌, ◌^◌, ◌<◌, ◌≤◌}
use mathlib.Core.Bool.{Bool, true}
use mathlib.Core.Path.{◌≡◌, refl, sym, ap, ◌∙◌, subst}
use mathlib.Core.Logic.{◌≢◌, by_cases}
use mathlib.Core.List.{List, ◌++◌}
use native.Mathlib.Omega.{arith}
use native.Mathlib.Decide.{ℕ_discrete}
use native.Mathlib.Nat.{mod-lt, mul-one, mul-le-mul_right, mul_comm, add-zero}
use lib.ListN.{length, get_or, set, replicate, length-set}
use lib.Seq.{sets, get_or-set_same, get_or-set_other, length-sets}
use lib.Dec.{eqb, lit<, lit≤}
use lib.IntN.{ℤ, pos, negsuc}
use lib.Pow.{pow_pos}
use lib.Signed.{mag}
use borrow.Author.Tests.{le-ltb, eqb-true, eqb-false}
use Rattle.rules.specs.Limits.{sample_bound}
use Rattle.rules.specs.declared.reader.Bits.{Bits}
use Rattle.rules.specs.Reader.{has_filler, signed, modulo}
use Rattle.rules.specs.Frame.{tabulate}
use Rattle.rules.specs.V2.{fresh_row, repeated, base, position, read_block, then, blocks, base_cell, block_cells, apply, value, hold, sample, sample_kind}
use Rattle.rules.proofs.Cells.{All, all_get}
use Rattle.rules.proofs.ReaderLaws.{signed_low, signed_high, signed_mag}
use Rattle.rules.proofs.V2Cells.{write_plain}
use Rattle.rules.proofs.Tests.{by-test}
use Rattle.write_rules.specs.Writer.{holds, lengths_for, blocks_bits}
use Rattle.write_rules.specs.V2Writer.{base_of, difference, differences}
use Rattle.write_rules.specs.Weight.{Short}
use Rattle.write_rules.proofs.Ahead.{Stream, Sees}
use Rattle.write_rules.proofs.Blocks.{lengths_most, lengths_hold, block_parts}
use Rattle.write_rules.proofs.Smallest.{back_low, back_high}
use Rattle.write_rules.proofs.V2Seen.{written_hdr, placed, block_differences, written_block, SeesBlock, sees_block}

-- ── A difference and its base give the sample back ──

-- A number of 15 bits modulo 65,536: it is what its bits read back as.
modulo_pos : (n : ℕ) → n < 16_384 → modulo (pos n) ≡ n
modulo_pos n h = sym (ap modulo (signed_low 15 n (omega arith))) ∙ back_low 15 n (lit≤ tt) (omega arith) (omega arith) ∙ omega arith

modulo_negsuc : (n : ℕ) → n < 16_384 → modulo (negsuc n) ≡ 65_535 - n
modulo_negsuc n h =
    let v : ℕ = 32_767 - n in
    let e : 32_768 - suc v ≡ n = omega arith in
    ap (λ m. modulo (negsuc m)) (sym e) ∙ sym (ap modulo (signed_high 15 v (omega arith) (omega arith)))
    ∙ back_high 15 v (lit≤ tt) (omega arith) (omega arith) ∙ omega arith

plus_back : (a b : ℕ) (d : ℤ) → a < 16_384 → b < 16_384 → mag d < 16_384 → modulo d ≡ (a + 65_536 - b) % 65_536 → sample 16_383 (pos 0) d b ≡ a
unfolding value hold
plus_back a b (pos n) la lb k e = let q : n ≡ (a + 65_536 - b) % 65_536 = sym (modulo_pos n k) ∙ e in omega arith
plus_back a b (negsuc n) la lb k e =
    let q : 65_535 - n ≡ (a + 65_536 - b) % 65_536 = sym (modulo_negsuc n k) ∙ e in
    let l : suc n ≤ b = omega arith in
    rw (mul-one (suc n), le-ltb b (suc n) l) (omega arith)

difference_back : (a b l : ℕ) → a < 16_384 → b < 16_384 → l < 16 → holds l ((a + 65_536 - b) % 65_536) ≡ true
    → sample 16_383 (pos 0) (signed l ((a + 65_536 - b) % 65_536 % 2 ^ l)) b ≡ a
unfolding holds
difference_back a b l la lb k e =
    let d : ℕ = (a + 65_536 - b) % 65_536 in
    plus_back a b (signed l (d % 2 ^ l)) la lb (signed_mag 14 l (d % 2 ^ l) (omega arith) (mod-lt d (pow_pos l))) (eqb-true (modulo (signed l (d % 2 ^ l))) d e)

-- ── Differences at their positions ──

-- What each difference has at its own position holds at every position that one of them has.
module _ (row : ℕ) (ls : List ℕ) (d : ℕ → ℕ) (P : ℕ → ℤ → Type 0)
    (own : (k : ℕ) → k < 16 → P (position row k) (signed (get_or ls (k / 4) 0) (d k % 2 ^ get_or ls (k / 4) 0))) where
  placed_have : (n k : ℕ) → k + n ≤ 16 → (vs : List ℤ) (i : ℕ) → i < length vs
      → (((j : ℕ) → k ≤ j → j < k + n → position row j ≢ i) → P i (get_or vs i (pos 0))) → P i (get_or (placed row ls d n k vs) i (pos 0))
  unfolding placed
  placed_have zero k l vs i q unwritten = unwritten (λ j a b. absurd (omega arith))
  placed_have (suc n) k l vs i q unwritten =
      placed_have n (suc k) (omega arith) (set vs p v) i (rw (length-set vs p v) q)
      (λ none. by_cases (ℕ_discrete i p)
      (λ e. subst (λ x. P x (get_or (set vs p v) x (pos 0))) (sym e) (rw (get_or-set_same vs p v (pos 0) (rw (← e) q)) (own k (omega arith))))
      (λ e. rw (get_or-set_other vs p i v (pos 0) e)
      (unwritten (λ j a b. by_cases (ℕ_discrete j k) (λ r. rw r (λ x. e (sym x))) (λ r. none j (omega arith) (omega arith))))))
    where
      p : ℕ
      p = position row k

      v : ℤ
      v = signed (get_or ls (k / 4) 0) (d k % 2 ^ get_or ls (k / 4) 0)

-- Every position of a block is some difference's.
positions_all : (row i : ℕ) → i < 16 → ((j : ℕ) → 0 ≤ j → j < 16 → position row j ≢ i) → ⊥
unfolding position
positions_all row i l none =
    by-test (eqb (row % 2) 0)
    (λ e. (rw e at none) (q + 8 * r) (omega arith) (omega arith) (rw (low r, high r) (omega arith)))
    (λ e. (rw e at none) (q + 8 * (1 - r)) (omega arith) (omega arith) (rw (low (1 - r), high (1 - r)) (omega arith)))
  where
    q : ℕ
    q = i / 2

    r : ℕ
    r = i % 2

    low : (m : ℕ) → (q + 8 * m) % 8 ≡ q
    low m = omega arith

    high : (m : ℕ) → (q + 8 * m) / 8 ≡ m
    high m = omega arith

-- ── Cells ──

-- The first n cells of two frames are the same.
abbrev pub Same : ℕ → List ℕ → List ℕ → Type 0
Same n f g = (i : ℕ) → i < n → get_or f i 0 ≡ get_or g i 0

sets_same : (k i : ℕ) (v : ℕ → ℕ) (n : ℕ) (f g : List ℕ) → n + k ≤ length f → ((j : ℕ) → j < k → v (i + j) ≡ get_or g (n + j) 0) → Same n f g
    → Same (n + k) (sets f n (tabulate k i v)) g
unfolding tabulate
sets_same zero i v n f g l h a = rw (add-zero n) a
sets_same (suc k) i v n f g l h a =
    let q : n + suc k ≡ suc n + k = omega arith in
    rw q (sets_same k (suc i) v (suc n) (set f n (v i)) g (rw length-set (omega arith)) (λ j r. rw (next i j, next n j) (h (suc j) (omega arith))) first)
  where
    next : (m j : ℕ) → suc m + j ≡ m + suc j
    next m j = omega arith

    zeroth : (m : ℕ) → m + 0 ≡ m
    zeroth m = omega arith

    first : Same (suc n) (set f n (v i)) g
    first j r =
        by_cases (ℕ_discrete j n)
        (λ e. rw e (get_or-set_same f n (v i) 0 (omega arith) ∙ (rw (zeroth i, zeroth n) at (h 0 (omega arith)))))
        (λ e. get_or-set_other f n j (v i) 0 e ∙ a j (omega arith))

-- ── A block ──

module _ (w h : ℕ) (g : List ℕ) (small : All (λ a. a < sample_bound) g) (row : ℕ) (in_frame : row < h) where
  get_small : (i : ℕ) → get_or g i 0 < sample_bound
  get_small i = all_get (λ a. a < sample_bound) small i 0 (lit< tt)

  base_small : (col i : ℕ) → base_of w g row col i < sample_bound
  unfolding base_of
  base_small col i = by-test (eqb col 0) (λ e. rw e (lit< tt)) (λ e. rw e (get_small (row * w + col - 2 + i % 2)))

  -- A base is the same in any frame that agrees with the written one before the block.
  base_same : (col i : ℕ) (f : List ℕ) → col % 16 ≡ 0 → Same (row * w + col) f g
      → base_cell (sample_kind 16_383) f (base written_hdr w row col 7 i) ≡ base_of w g row col i
  unfolding base repeated base_cell base_of
  base_same col i f whole a = by-test (eqb col 0) (λ e. rw e) (λ e. rw e (let n = eqb-false col 0 e in a p (omega arith)))
    where
      p : ℕ
      p = row * w + col - 2 + i % 2

  pub difference_short : (col i : ℕ) → Short (difference w g row col i)
  unfolding difference
  difference_short col i = go (get_or g (row * w + col + i) 0) (base_of w g row col i) (get_small (row * w + col + i)) (base_small col i)
    where
      go : (a p : ℕ) → a < 16_384 → p < 16_384 → Short ((a + 65_536 - p) % 65_536)
      go a p l l' = record { below = omega arith; short = omega arith }

  -- The differences of a block, in the order of the stream.
  abbrev in_order : ℕ → ℕ → ℕ
  in_order col k = difference w g row col (position row k)

  -- What a difference must give at sample i.
  Back : ℕ → ℕ → ℤ → Type 0
  Back col i d = sample 16_383 (pos 0) d (base_of w g row col i) ≡ get_or g (row * w + col + i) 0

  one_back : (col k : ℕ) → k < 16
      → Back col (position row k) (signed (get_or (lengths_for (in_order col)) (k / 4) 0) (in_order col k % 2 ^ get_or (lengths_for (in_order col)) (k / 4) 0))
  unfolding Back difference
  one_back col k l =
      let i = position row k in
      let n = get_or (lengths_for (in_order col)) (k / 4) 0 in
      difference_back (get_or g (row * w + col + i) 0) (base_of w g row col i) n (get_small (row * w + col + i)) (base_small col i)
      (all_get (λ l. l < 16) (lengths_most (in_order col)) (k / 4) 0 (lit< tt)) (lengths_hold (in_order col) (λ k. difference_short col (position row k)) k l)

  placed_back : (col i : ℕ) → i < 16 → Back col i (get_or (block_differences row (in_order col)) i (pos 0))
  placed_back col i l =
      placed_have row (lengths_for (in_order col)) (in_order col) (Back col) (one_back col) 16 0 (lit≤ tt) (replicate 16 (pos 0)) i l
      (λ none. absurd (positions_all row i l none))

  -- A block over a frame that agrees with the written one before it: the frame agrees after it, too.
  block_back : (filler : Bool) (col : ℕ) (f : List ℕ) → length f ≡ w * h → col % 16 ≡ 0 → col + 16 ≤ w → Same (row * w + col) f g
      → Same (row * w + (col + 16)) (sets f (row * w + col) (block_cells (sample_kind 16_383) f (written_block filler w row col (in_order col)))) g
  unfolding block_cells Back
  block_back filler col f e whole l a =
      rw on at (sets_same 16 0 cell (row * w + col) f g (omega (arith, room, e, mul_comm w h)) each a)
    where
      cell : ℕ → ℕ
      cell i = sample 16_383 (pos 0) (get_or (block_differences row (in_order col)) i (pos 0)) (base_cell (sample_kind 16_383) f (base written_hdr w row col 7 i))

      room : suc row * w ≤ h * w
      room = mul-le-mul_right w in_frame

      on : row * w + col + 16 ≡ row * w + (col + 16)
      on = omega arith

      each : (i : ℕ) → i < 16 → cell (0 + i) ≡ get_or g (row * w + col + i) 0
      each i q =
          let z : 0 + i ≡ i = omega arith in
          rw z (ap (sample 16_383 (pos 0) (get_or (block_differences row (in_order col)) i (pos 0))) (base_same col i f whole a) ∙ placed_back col i q)

-- ── A row's blocks ──

module _ (s : List ℕ) (st : Stream s) (w h : ℕ) (g : List ℕ) (small : All (λ a. a < sample_bound) g) (row : ℕ) (in_frame : row < h) where
  -- k blocks from a column on: none is refused, the reader sees what follows them, and they give the written frame.
  pub record SeesBlocks (k col : ℕ) (b : Bits) (mode : List (List ℕ)) (rest : List Bool) : Type 0 where
    pub accepted : (blocks s written_hdr w row k col b fresh_row mode).number ≡ 0
    pub next_sees : Sees s (blocks s written_hdr w row k col b fresh_row mode).bits rest
    pub back : (f : List ℕ) → length f ≡ w * h → Same (row * w + col) f g
        → Same (row * w + (col + 16 * k)) (apply (sample_kind 16_383) (blocks s written_hdr w row k col b fresh_row mode).blocks f) g

  pub sees_blocks : (k col : ℕ) (b : Bits) (mode : List (List ℕ)) (rest : List Bool) → col % 16 ≡ 0 → col + 16 * k ≤ w
      → Sees s b (blocks_bits (differences w g) row k col ++ rest) → SeesBlocks k col b mode rest
  unfolding blocks then blocks_bits apply
  sees_blocks zero col b mode rest whole fits q =
      record { accepted = refl; next_sees = q; back = λ f e a. let z : col + 16 * 0 ≡ col = omega arith in rw z a }
  sees_blocks (suc k) col b mode rest whole fits q =
      let m = sees_blocks k (col + 16) B.end (read_block s written_hdr w row col b fresh_row mode).mode rest (omega arith) (omega arith) B.end_sees in
      let on : col + 16 * suc k ≡ col + 16 + 16 * k = omega arith in
      record {
        accepted = rw B.outcome_is m.accepted;
        next_sees = rw B.outcome_is m.next_sees;
        back = λ f e a.
            rw (B.outcome_is, B.block_is, on, write_plain (sample_kind 16_383) (λ a. refl) (written_block filler w row col d) f)
            (m.back (sets f (row * w + col) (new f)) (length-sets f (row * w + col) (new f) ∙ e) (block_back w h g small row in_frame filler col f e whole (omega arith) a));
      }
    where
      d : ℕ → ℕ
      d j = difference w g row col (position row j)

      later : List Bool
      later = blocks_bits (differences w g) row k (col + 16) ++ rest

      B : SeesBlock s st w row col d b mode later
      B = sees_block s st w row col d b mode later (subst (Sees s b) (block_parts d (blocks_bits (differences w g) row k (col + 16)) rest) q)

      filler : Bool
      filler = has_filler B.end

      new : List ℕ → List ℕ
      new f = block_cells (sample_kind 16_383) f (written_block filler w row col d)
