-- A frame: what is left of its rows has the frame's verdict, as long as no row had a fault.
use Prim.Native.Nat.{ℕ, zero, suc, ◌+◌, ◌-◌, ◌*◌, ◌^◌, ◌≤◌, ◌<◌}
use mathlib.Core.Path.{◌≡◌, refl, sym, ap, ◌∙◌, subst}
use mathlib.Core.List.{List}
use native.Mathlib.Omega.{arith}
use mathlib.Core.Bool.{false, cond}
use lib.Dec.{eqb, ltb}
use lib.ListN.{length, get_or}
use borrow.Author.Tests.{eqb-false, ne_eqb, lt-ltb, le-ltb}
use Rattle.rules.specs.declared.answer.Answer.{Answer}
use Rattle.rules.specs.declared.answer.Size.{Size}
use Rattle.std.specs.Prelude.{Result, Ok, Err, IfOk}
use Rattle.rules.specs.Answer.{done}
use Rattle.rules.specs.Refusals.{refusal_number}
use Rattle.rules.proofs.RefusalNumbers.{number_not}
use Rattle.rules.proofs.Tests.{by-test}
use Rattle.rules_clean.specs.Verdict.{row_fault, fault_at, rows_verdict, verdict}
use Rattle.v0_direct.specs.declared.run.Run.{Run}
use Rattle.v0_clean.specs.OffsetsLent.{OffsetsLent, InRow, FourLent}
use Rattle.v0_clean.specs.Row.{fault_from, Decides, Passed}
use Rattle.v0_clean.specs.Rows.{RowsIn, RowsPassed, or_after, in_order, four_from, part, Parted}
use Rattle.v0_clean.specs.Faults.{told}
use Rattle.v0_clean.specs.declared.Fault.{Fault}
use Rattle.v0_clean.specs.declared.heads.OfFour.{OfFour}

pub record Going (s offsets : List ℕ) (z : Size) (row : ℕ) : Type 0 where
  pub below : row ≤ z.height
  pub left : rows_verdict s offsets z (z.height - row) row ≡ verdict s offsets z

pub row_lent : {z : Size} {offsets : List ℕ} {row : ℕ} → row < z.height → OffsetsLent z offsets → InRow z row
row_lent l d = record { width = d.width; height = d.height; row_in = l }

-- A row of four.
pub row_of_four : {z : Size} {row : ℕ} → RowsIn z row → (r : ℕ) → r < row + 4 → InRow z r
row_of_four x r l = record { width = x.width; height = x.height; row_in = omega (arith, x.rows_in) }

-- One of four that are lent.
module _ {z : Size} {row : ℕ} {offsets : List ℕ} (x : FourLent z row offsets) (r : ℕ) (l : r < row + 4) where
  pub four_short : r < 2 ^ 64
  four_short = omega (arith, x.rows_in, x.lent.height)

  pub four_bytes : r * 4 < 2 ^ 64
  four_bytes = omega (arith, x.rows_in, x.lent.height)

  pub four_offset : r < length offsets
  four_offset = omega (arith, x.rows_in, x.lent.offsets_enough)

  pub four_begins : InRow z r × (0 < z.width)
  four_begins = (record { width = x.lent.width; height = x.lent.height; row_in = omega (arith, x.rows_in) }, x.wide)

module _ (s offsets : List ℕ) (z : Size) where
  -- The verdict on n rows and then on m.
  rows_split : (n m t row next : ℕ) → t ≡ n + m → next ≡ row + n
      → rows_verdict s offsets z t row ≡ cond (eqb (rows_verdict s offsets z n row).number 0) (rows_verdict s offsets z m next) (rows_verdict s offsets z n row)
  unfolding rows_verdict
  rows_split zero m t row next et en =
      let a : t ≡ m = omega arith in let b : next ≡ row = omega arith in
      rw (a, b)
  rows_split (suc n) m t row next et en =
      let a : t ≡ suc (n + m) = omega arith in let b : next ≡ suc row + n = omega arith in
      ap (λ x. rows_verdict s offsets z x row) a
      ∙ by-test (eqb (row_fault s z row (get_or offsets row 0)) 0) (λ e. rw e (rows_split n m (n + m) (suc row) next refl b)) (λ e. rw (e, e))

  pub going_begun : Going s offsets z 0
  unfolding verdict
  going_begun =
      let e : z.height - 0 ≡ z.height = omega arith in
      record { below = omega arith; left = ap (λ n. rows_verdict s offsets z n 0) e }

  pub parted : (row n : ℕ) (r : Result ℕ Fault) → part z row ≡ n → 0 < n → row + n ≤ z.height → IfOk r (λ m. m ≡ n) → told r ≡ rows_verdict s offsets z n row → Parted s offsets z row r
  parted row n r e some inside many verdict_is =
      record {
        how_many = subst (λ k. IfOk r (λ m. m ≡ k)) (sym e) many;
        some = subst (λ k. 0 < k) (sym e) some;
        rows_in = subst (λ k. row + k ≤ z.height) (sym e) inside;
        verdict_is = subst (λ k. told r ≡ rows_verdict s offsets z k row) (sym e) verdict_is;
      }

  -- The rest begins with some rows.
  module _ (row : ℕ) (r : Result ℕ Fault) (x : Parted s offsets z row r) where
    rest_here : rows_verdict s offsets z (z.height - row) row ≡ cond (eqb (told r).number 0) (rows_verdict s offsets z (z.height - (row + part z row)) (row + part z row)) (told r)
    rest_here =
        rows_split (part z row) (z.height - (row + part z row)) (z.height - row) row (row + part z row) (omega (arith, x.rows_in)) refl ∙ rw (← x.verdict_is)

    pub going_found : (f : Fault) → r ≡ Err f → Going s offsets z row → fault_at f.row (refusal_number f.refusal) ≡ verdict s offsets z
    going_found f e g = sym (rest_here ∙ rw (e, ne_eqb (refusal_number f.refusal) 0 (number_not f.refusal))) ∙ g.left

    pub going_on : (n : ℕ) → r ≡ Ok n → n ≡ part z row → Going s offsets z row → Going s offsets z (row + n)
    going_on n e m g = rw m (record { below = x.rows_in; left = sym (rest_here ∙ rw e) ∙ g.left })

  pub gone : (row : ℕ) → z.height ≤ row → Going s offsets z row → done ≡ verdict s offsets z
  unfolding rows_verdict
  gone row l g =
      let e : z.height - row ≡ 0 = omega arith in
      sym (ap (λ n. rows_verdict s offsets z n row) e) ∙ g.left

  -- ── One row, and four ──

  pub row_alone : (row : ℕ) → or_after row (row_fault s z row (get_or offsets row 0)) done ≡ rows_verdict s offsets z 1 row
  unfolding rows_verdict
  row_alone row = refl

  pub four_rows : (row : ℕ) (r : OfFour Run) → fault_from s z row r.a ≡ row_fault s z row (get_or offsets row 0)
      → fault_from s z (row + 1) r.b ≡ row_fault s z (row + 1) (get_or offsets (row + 1) 0)
      → fault_from s z (row + 2) r.c ≡ row_fault s z (row + 2) (get_or offsets (row + 2) 0)
      → fault_from s z (row + 3) r.d ≡ row_fault s z (row + 3) (get_or offsets (row + 3) 0) → in_order s z row r ≡ rows_verdict s offsets z 4 row
  unfolding in_order rows_verdict
  four_rows row r a b c d =
      let one : row + 1 ≡ suc row = omega arith in let two : row + 2 ≡ suc (suc row) = omega arith in let three : row + 3 ≡ suc (suc (suc row)) = omega arith in
      rw (a, b, c, d, one, two, three)

  -- Rows that were begun and passed over.
  pub four_passed : (row : ℕ) → FourLent z row offsets → (r r' : OfFour Run) → RowsPassed s z r r' → Decides s z row (row_fault s z row (get_or offsets row 0)) r.a
      → Decides s z (row + 1) (row_fault s z (row + 1) (get_or offsets (row + 1) 0)) r.b
      → Decides s z (row + 2) (row_fault s z (row + 2) (get_or offsets (row + 2) 0)) r.c
      → Decides s z (row + 3) (row_fault s z (row + 3) (get_or offsets (row + 3) 0)) r.d → in_order s z row r' ≡ rows_verdict s offsets z 4 row
  four_passed row x r r' p a b c d =
      four_rows row r' (decided row r.a r'.a (omega arith) (omega (arith, x.late)) p.first a) (decided (row + 1) r.b r'.b (omega arith) (omega (arith, x.late)) p.second b)
      (decided (row + 2) r.c r'.c (omega arith) (omega (arith, x.late)) p.third c) (decided (row + 3) r.d r'.d (omega arith) (omega (arith, x.late)) p.fourth d)
    where
      decided : (n : ℕ) (q q' : Run) → n < row + 4 → 2 ≤ n → Passed s z q q' → Decides s z n (row_fault s z n (get_or offsets n 0)) q → fault_from s z n q' ≡ row_fault s z n (get_or offsets n 0)
      decided n q q' l late y e = sym (y.same n late (four_begins x n l).0) ∙ e.left

-- ── The order of four ──

module _ {A : Type 0} {r : Result A Fault} (row k : ℕ) (e : told r ≡ or_after row k done) (next : Answer) where
  -- The row's fault comes before what follows.
  pub told_first : {f : Fault} → r ≡ Err f → fault_at f.row (refusal_number f.refusal) ≡ or_after row k next
  told_first {f} q =
      let e' = rw q at e in
      by-test (eqb k 0) (λ t. absurd (number_not f.refusal (ap (λ a. a.number) (rw t at e')))) (λ t. rw t (rw t at e'))

  -- The row has no fault.
  pub told_none : {y : A} → r ≡ Ok y → next ≡ or_after row k next
  told_none q =
      let e' = rw q at e in
      by-test (eqb k 0) (λ t. rw t) (λ t. absurd (zero_not k t (ap (λ a. a.number) (rw t at e'))))
    where
      zero_not : (k : ℕ) → eqb k 0 ≡ false → 0 ≡ k → ⊥
      zero_not k t z = let n = eqb-false k 0 t in n (sym z)

-- When four rows are checked side by side, test by test.
pub four_early : (z : Size) (row : ℕ) → row < 2 → false ≡ four_from z row
unfolding four_from
four_early z row l = rw (lt-ltb row 2 l)

pub four_few : (z : Size) (row : ℕ) → 2 ≤ row → z.height - row < 4 → false ≡ four_from z row
unfolding four_from
four_few z row l f = rw (le-ltb row 2 l, lt-ltb (z.height - row) 4 f)

pub four_wide : (z : Size) (row : ℕ) → 2 ≤ row → 4 ≤ z.height - row → ltb 0 z.width ≡ four_from z row
unfolding four_from
four_wide z row l f = rw (le-ltb row 2 l, le-ltb (z.height - row) 4 f)
