-- The verdict is done exactly of the clean frames, and else tells the first row with a fault. A clean frame's map is all 0 and its
-- count of missing words is 0; a frame with fault 19 has a count that isn't.
use Prim.Native.Nat.{ℕ, zero, suc, ◌+◌, ◌*◌, ◌≤◌, ◌<◌, min}
use mathlib.Core.Bool.{Bool, true, false, not, ◌&&◌}
use mathlib.Core.Path.{◌≡◌, refl, sym, ap, ap₂, ◌∙◌}
use mathlib.Core.Logic.{◌≢◌, by_cases}
use mathlib.Core.List.{List, [], ◌∷◌}
use native.Mathlib.Omega.{arith}
use lib.Dec.{ltb, eqb}
use lib.IntN.{ℤ, pos, negsuc}
use lib.ListN.{length, get_or, replicate}
use native.Mathlib.Decide.{ℕ_discrete, dec_lt}
use borrow.Author.Tests.{leb-true, le-leb, lt-ltb, le-ltb, eqb-true, eqb-false, eq-eqb}
use Rattle.rules.specs.declared.answer.Answer.{Answer}
use Rattle.rules.specs.declared.answer.Size.{Size}
use Rattle.rules.specs.declared.reader.Bits.{Bits}
use Rattle.rules.specs.declared.v0.Predictor.{Predictor}
use Rattle.rules.specs.declared.v0.V0Row.{V0Row}
use Rattle.rules.specs.declared.v0.V0Head.{V0Head}
use Rattle.rules.specs.Reader.{has_filler, most_filler}
use Rattle.rules.specs.Frame.{cells}
use Rattle.rules.specs.V0 as V0
use Rattle.rules.specs.Map.{v0_map}
use Rattle.rules.specs.Ranges.{Between, not_above, not_below}
use Rattle.rules.specs.Answer.{done}
use Rattle.rules.proofs.Cells.{All, nil, more}
use Rattle.rules.proofs.Tests.{clash, by-test}
use Rattle.rules.proofs.Longer.{no_filler}
use Rattle.rules.proofs.V0Blocks.{after, EachBlock, EachInRow, each_block, each_block_map}
use Rattle.rules.proofs.V0Cells.{v0_map_length}
use Rattle.rules.proofs.Traced.{leads_kept}
use Rattle.rules.proofs.V0Traced.{block_traced}
use Rattle.rules.proofs.V0NoMarks.{NoUpward}
use Rattle.rules.proofs.NoFiller.{v0_all_0}
use Rattle.rules_clean.specs.Verdict.{fits, all_fit, first_fault, block_fault, or_next, blocks_fault, row_fault, fault_at, rows_verdict, verdict}

-- ── A clean frame ──

-- The three conditions on a clean frame (docs/RULES.md, "Clean frames"), one by one and without an order.
pub record Clean (s offsets : List ℕ) (z : Size) : Type 0 where
  pub downward : (row : ℕ) → row < 2 → row < z.height → NoUpward s offsets z row
  pub lengths : (row : ℕ) → row < z.height → EachInRow (λ h b. All (Between 0 16) h.row.lengths) s offsets z row
  pub no_filler : V0.frame_filler s offsets z ≡ 0

-- ── A block ──

-- The same of one block: direction, lengths, end.
pub record CleanBlock (row : ℕ) (h : V0Head) (end : Bits) : Type 0 where
  pub down : row < 2 → h.up ≡ false
  pub short : All (Between 0 16) h.row.lengths
  pub there : end.filler ≡ 0

fits_between : (l : ℤ) → fits l ≡ true → Between 0 16 l
unfolding fits
fits_between (pos n) e = not_above n (leb-true n 16 e)
fits_between (negsuc n) e = absurd (clash e refl)

between_fits : {l : ℤ} → Between 0 16 l → fits l ≡ true
unfolding fits
between_fits (not_above n l) = le-leb n 16 l
between_fits (not_below n l) = absurd (omega arith)

all_between : (ls : List ℤ) → all_fit ls ≡ true → All (Between 0 16) ls
unfolding all_fit
all_between [] e = nil
all_between (l ∷ ls) e = by-test (fits l) (λ f. more (fits_between l f) ((all_between ls (rw f at e)))) (λ f. absurd (clash (rw f at e) refl))

between_all : {ls : List ℤ} → All (Between 0 16) ls → all_fit ls ≡ true
unfolding all_fit
between_all nil = refl
between_all (more {a = l} {xs = ls} h hs) = rw (between_fits h, between_all hs)

pub never : (n : ℕ) → suc n ≡ 0 → ⊥
never n e = omega arith

-- A block has no fault exactly if it is clean.
pub none_clean : (row : ℕ) (h : V0Head) (end : Bits) → block_fault row h end ≡ 0 → CleanBlock row h end
unfolding block_fault first_fault
none_clean row h end e =
    by-test (ltb row 2 && h.up)
    (λ p. absurd (never 16 (rw p at e)))
    (λ p. by-test (all_fit h.row.lengths)
    (λ q. by-test (has_filler end)
    (λ r. absurd (never 18 (rw (p, q, r) at e)))
    (λ r. record { down = down p; short = all_between h.row.lengths q; there = no_filler end r }))
    (λ q. absurd (never 17 (rw (p, q) at e))))
  where
    down : ltb row 2 && h.up ≡ false → row < 2 → h.up ≡ false
    down q l = rw (lt-ltb row 2 l) at q

pub clean_none : (row : ℕ) (h : V0Head) (end : Bits) → CleanBlock row h end → block_fault row h end ≡ 0
unfolding block_fault first_fault
clean_none row h end c =
    rw (below (dec_lt row 2), between_all c.short, c.there)
  where
    below : Dec (row < 2) → ltb row 2 && h.up ≡ false
    below (yes l) = rw (lt-ltb row 2 l) (c.down l)
    below (no l) = rw (le-ltb row 2 (omega arith))

-- A block whose words are all there has another fault than 19, or none.
there_not_19 : (row : ℕ) (h : V0Head) (end : Bits) → end.filler ≡ 0 → block_fault row h end ≢ 19
unfolding block_fault first_fault
there_not_19 row h end q = go (ltb row 2 && h.up) (not (all_fit h.row.lengths)) (eqb end.filler 0) (eq-eqb _ 0 q)
  where
    go : (t u v : Bool) → v ≡ true → first_fault t u (not v) ≢ 19
    go true u v p e = never 1 (let z : ◌≡◌ {A = ℕ} 17 19 = e in omega arith)
    go false true v p e = never 0 (let z : ◌≡◌ {A = ℕ} 18 19 = e in omega arith)
    go false false true p e = never 18 (sym e)
    go false false false p e = clash p refl

-- ── A row ──

or_none : (k n : ℕ) → or_next k n ≡ 0 → (k ≡ 0) × (n ≡ 0)
or_none k n = by-test (eqb k 0) (λ q. rw q (λ e. (eqb-true k 0 q, e))) (λ q. rw q (λ e. absurd (eqb-false k 0 q e)))

or_not : (k n m : ℕ) → k ≢ m → n ≢ m → or_next k n ≢ m
or_not k n m p q = by-test (eqb k 0) (λ e. rw e q) (λ e. rw e p)

-- What three things of every head and state come to holds of each block of which they hold.
each_block_three : (s : List ℕ) (first : ℕ) (predict : ℕ → Bool → ℕ → Predictor) (P Q R S : V0Head → Bits → Type 0)
    → ((h : V0Head) (b : Bits) → P h b → Q h b → R h b → S h b) → (n col : ℕ) (st : V0Row)
    → EachBlock s first predict P n col st → EachBlock s first predict Q n col st → EachBlock s first predict R n col st → EachBlock s first predict S n col st
unfolding EachBlock
each_block_three s first predict P Q R S f zero col st p q r = tt
each_block_three s first predict P Q R S f (suc n) col st p q r =
    (f _ _ p.0 q.0 r.0, each_block_three s first predict P Q R S f n (col + 16) (after s first predict col st) p.1 q.1 r.1)

-- Each block of a row is clean.
abbrev pub CleanRow : List ℕ → List ℕ → Size → ℕ → Type 0
CleanRow s offsets z row = EachInRow (CleanBlock row) s offsets z row

module _ (s : List ℕ) (z : Size) (row : ℕ) where
  none_blocks : (n col : ℕ) (st : V0Row) → blocks_fault s z row n col st ≡ 0 → EachBlock s (row * z.width) (V0.predictor z row) (CleanBlock row) n col st
  unfolding blocks_fault EachBlock
  none_blocks zero col st e = tt
  none_blocks (suc n) col st e =
      let q = or_none _ _ e in
      (none_clean row _ _ q.0, none_blocks n (col + 16) (after s (row * z.width) (V0.predictor z row) col st) q.1)

  blocks_none : (n col : ℕ) (st : V0Row) → EachBlock s (row * z.width) (V0.predictor z row) (CleanBlock row) n col st → blocks_fault s z row n col st ≡ 0
  unfolding blocks_fault EachBlock
  blocks_none zero col st c = refl
  blocks_none (suc n) col st c =
      rw (clean_none row _ _ c.0) (blocks_none n (col + 16) (after s (row * z.width) (V0.predictor z row) col st) c.1)

  not_19 : (n col : ℕ) (st : V0Row) → EachBlock s (row * z.width) (V0.predictor z row) (λ h b. b.filler ≡ 0) n col st → blocks_fault s z row n col st ≢ 19
  unfolding blocks_fault EachBlock
  not_19 zero col st c = λ e. never 18 (sym e)
  not_19 (suc n) col st c =
      or_not _ _ 19 (there_not_19 row _ _ c.0) (not_19 n (col + 16) (after s (row * z.width) (V0.predictor z row) col st) c.1)

module _ (s offsets : List ℕ) (z : Size) where
  -- What is wrong with a row of the frame.
  abbrev pub fault_of : ℕ → ℕ
  fault_of row = row_fault s z row (get_or offsets row 0)

  pub none_row : (row : ℕ) → fault_of row ≡ 0 → CleanRow s offsets z row
  unfolding row_fault
  none_row row e = none_blocks s z row (V0.blocks_in z.width) 0 (V0.fresh_row row (get_or offsets row 0)) e

  pub row_none : (row : ℕ) → CleanRow s offsets z row → fault_of row ≡ 0
  unfolding row_fault
  row_none row c = blocks_none s z row (V0.blocks_in z.width) 0 (V0.fresh_row row (get_or offsets row 0)) c

  -- ── A frame ──

  -- The rows before a verdict's row have no fault, and its own has the verdict's.
  pub record First (n row : ℕ) (v : Answer) : Type 0 where
    pub row_from : row ≤ v.row
    pub row_below : v.row < row + n
    pub before : (r : ℕ) → row ≤ r → r < v.row → fault_of r ≡ 0
    pub here : v ≡ fault_at v.row (fault_of v.row)

  pub rows_none : (n row : ℕ) → ((r : ℕ) → row ≤ r → r < row + n → fault_of r ≡ 0) → rows_verdict s offsets z n row ≡ done
  unfolding rows_verdict
  rows_none zero row h = refl
  rows_none (suc n) row h = rw (h row (omega arith) (omega arith)) (rows_none n (suc row) (λ r l u. h r (omega arith) (omega arith)))

  pub none_rows : (n row : ℕ) → (rows_verdict s offsets z n row).number ≡ 0 → (r : ℕ) → row ≤ r → r < row + n → fault_of r ≡ 0
  unfolding rows_verdict
  none_rows zero row e r l u = absurd (omega arith)
  none_rows (suc n) row e r l u =
      by-test (eqb (fault_of row) 0)
      (λ q. by_cases (ℕ_discrete r row) (λ p. rw p (eqb-true (fault_of row) 0 q)) (λ p. none_rows n (suc row) (rw q at e) r (omega arith) (omega arith)))
      (λ q. absurd (eqb-false (fault_of row) 0 q (rw q at e)))

  pub rows_first : (n row : ℕ) → (rows_verdict s offsets z n row).number ≢ 0 → First n row (rows_verdict s offsets z n row)
  unfolding rows_verdict
  rows_first zero row h = absurd (h refl)
  rows_first (suc n) row h =
      by-test (eqb (fault_of row) 0)
      (λ q. rw q (let f = rows_first n (suc row) (rw q at h) in
      record {
        row_from = omega (arith, f.row_from);
        row_below = omega (arith, f.row_below);
        before = λ r l u. by_cases (ℕ_discrete r row) (λ p. rw p (eqb-true (fault_of row) 0 q)) (λ p. f.before r (omega arith) u);
        here = f.here;
      }))
      (λ q. rw q (record { row_from = omega arith; row_below = omega arith; before = λ r l u. absurd (omega arith); here = refl }))

-- ── Missing words ──

module _ (s : List ℕ) (first : ℕ) (predict : ℕ → Bool → ℕ → Predictor) where
  -- No word was missing by the end of each block if none was by the end of the last.
  blocks_there : (n col : ℕ) (st : V0Row) → (V0.blocks s first predict n col st).bits.filler ≡ 0
      → (st.bits.filler ≡ 0) × EachBlock s first predict (λ h b. b.filler ≡ 0) n col st
  unfolding V0.blocks EachBlock
  blocks_there zero col st e = (e, tt)
  blocks_there (suc n) col st e =
      let q = blocks_there n (col + 16) (after s first predict col st) e in
      (leads_kept (block_traced s first predict col st).leads q.0, (q.0, q.1))

  -- No word was missing by the end of the last block if none was by the end of each.
  there_blocks : (n col : ℕ) (st : V0Row) → st.bits.filler ≡ 0 → EachBlock s first predict (λ h b. b.filler ≡ 0) n col st
      → (V0.blocks s first predict n col st).bits.filler ≡ 0
  unfolding V0.blocks EachBlock
  there_blocks zero col st e c = e
  there_blocks (suc n) col st e c = there_blocks n (col + 16) (after s first predict col st) c.0 c.1

-- Every word of a row is there.
abbrev pub AllThere : List ℕ → List ℕ → Size → ℕ → Type 0
AllThere s offsets z row = EachInRow (λ h b. b.filler ≡ 0) s offsets z row

module _ (s offsets : List ℕ) (z : Size) where
  row_there : (row : ℕ) → (V0.row_blocks s z row (get_or offsets row 0)).bits.filler ≡ 0 → AllThere s offsets z row
  unfolding V0.row_blocks
  row_there row e = (blocks_there s (row * z.width) (V0.predictor z row) (V0.blocks_in z.width) 0 _ e).1

  there_row : (row : ℕ) → AllThere s offsets z row → (V0.row_blocks s z row (get_or offsets row 0)).bits.filler ≡ 0
  unfolding V0.row_blocks V0.fresh_row
  there_row row c = there_blocks s (row * z.width) (V0.predictor z row) (V0.blocks_in z.width) 0 _ refl c

  rows_there : (n row k : ℕ) → V0.rows_filler s offsets z n row k ≡ 0 → (k ≡ 0) × ((r : ℕ) → row ≤ r → r < row + n → AllThere s offsets z r)
  unfolding V0.rows_filler
  rows_there zero row k e = (e, λ r l u. absurd (omega arith))
  rows_there (suc n) row k e =
      let f = (V0.row_blocks s z row (get_or offsets row 0)).bits.filler in
      let q = rows_there n (suc row) (min (k + f) most_filler) e in
      let m = q.0 in
      (omega arith, λ r l u. at r l u (ℕ_discrete r row) (row_there row (omega arith)) q.1)
    where
      at : (r : ℕ) → row ≤ r → r < row + suc n → Dec (r ≡ row) → AllThere s offsets z row
          → ((r : ℕ) → suc row ≤ r → r < suc row + n → AllThere s offsets z r) → AllThere s offsets z r
      at r l u (yes p) here later = rw p here
      at r l u (no p) here later = later r (omega arith) (omega arith)

  there_rows : (n row : ℕ) → ((r : ℕ) → row ≤ r → r < row + n → AllThere s offsets z r) → V0.rows_filler s offsets z n row 0 ≡ 0
  unfolding V0.rows_filler
  there_rows zero row h = refl
  there_rows (suc n) row h =
      rw (there_row row (h row (omega arith) (omega arith))) (there_rows n (suc row) (λ r l u. h r (omega arith) (omega arith)))

  -- The frame's count is 0 exactly if every word of every row is there.
  pub filler_there : V0.frame_filler s offsets z ≡ 0 → (row : ℕ) → row < z.height → AllThere s offsets z row
  unfolding V0.frame_filler
  filler_there e row l = (rows_there z.height 0 0 e).1 row (omega arith) (omega arith)

  pub there_filler : ((row : ℕ) → row < z.height → AllThere s offsets z row) → V0.frame_filler s offsets z ≡ 0
  unfolding V0.frame_filler
  there_filler h = there_rows z.height 0 (λ r l u. h r (omega arith))

  -- ── What the verdict means ──

  -- Done: the frame is clean.
  pub accepted_clean : (verdict s offsets z).number ≡ 0 → Clean s offsets z
  unfolding verdict
  accepted_clean e =
      record {
        downward = λ row early l. of (λ h b. h.up ≡ false) row (λ h b c. c.down early) l;
        lengths = λ row l. of (λ h b. All (Between 0 16) h.row.lengths) row (λ h b c. c.short) l;
        no_filler = there_filler (λ row l. of (λ h b. b.filler ≡ 0) row (λ h b c. c.there) l);
      }
    where
      of : (P : V0Head → Bits → Type 0) (row : ℕ) → ((h : V0Head) (b : Bits) → CleanBlock row h b → P h b) → row < z.height → EachInRow P s offsets z row
      of P row f l =
          each_block_map s (row * z.width) (V0.predictor z row) (CleanBlock row) P f (V0.blocks_in z.width) 0 _
          (none_row s offsets z row (none_rows s offsets z z.height 0 e row (omega arith) (omega arith)))

  -- A clean frame is taken.
  pub clean_accepted : Clean s offsets z → verdict s offsets z ≡ done
  unfolding verdict
  clean_accepted c = rows_none s offsets z z.height 0 (λ row l u. row_none s offsets z row (clean row (omega arith)))
    where
      down : (row : ℕ) → row < z.height → Dec (row < 2) → EachInRow (λ h b. row < 2 → h.up ≡ false) s offsets z row
      down row l (yes early) =
          each_block_map s (row * z.width) (V0.predictor z row) (λ h b. h.up ≡ false) (λ h b. row < 2 → h.up ≡ false) (λ h b q m. q)
          (V0.blocks_in z.width) 0 _ (c.downward row early l)
      down row l (no late) =
          each_block s (row * z.width) (V0.predictor z row) (λ h b. row < 2 → h.up ≡ false) (λ h b m. absurd (omega arith)) (V0.blocks_in z.width) 0 _

      clean : (row : ℕ) → row < z.height → CleanRow s offsets z row
      clean row l =
          each_block_three s (row * z.width) (V0.predictor z row) (λ h b. row < 2 → h.up ≡ false) (λ h b. All (Between 0 16) h.row.lengths) (λ h b. b.filler ≡ 0)
          (CleanBlock row) (λ h b p q r. record { down = p; short = q; there = r }) (V0.blocks_in z.width) 0 _
          (down row l (dec_lt row 2)) (c.lengths row l) (filler_there c.no_filler row l)

  -- The map of a clean frame is all 0.
  pub clean_map : Clean s offsets z → v0_map s offsets z ≡ replicate (cells z) 0
  clean_map c =
      all_0 (v0_all_0 s offsets z c.no_filler c.downward) ∙ ap (λ n. replicate n 0) (v0_map_length s offsets z)
    where
      all_0 : {xs : List ℕ} → All (λ x. x ≡ 0) xs → xs ≡ replicate (length xs) 0
      all_0 nil = refl
      all_0 (more {a = x} {xs = xs} e es) = ap₂ (λ y ys. y ∷ ys) e (all_0 es)

  row_not_19 : (row : ℕ) → AllThere s offsets z row → fault_of s offsets z row ≢ 19
  unfolding row_fault
  row_not_19 row c = not_19 s z row (V0.blocks_in z.width) 0 _ c

  -- 19 means that the plain call's count of missing words isn't 0.
  pub filler_refused : (verdict s offsets z).number ≡ 19 → V0.frame_filler s offsets z ≢ 0
  unfolding verdict
  filler_refused e none =
      let v = rows_verdict s offsets z z.height 0 in
      let f = rows_first s offsets z z.height 0 (λ q. never 18 (sym e ∙ q)) in
      row_not_19 v.row (filler_there none v.row (omega (arith, f.row_below))) (sym (ap (λ a. a.number) f.here) ∙ e)
