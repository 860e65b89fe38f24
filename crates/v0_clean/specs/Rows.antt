-- Rows together: four from points on, and the verdict on some of a frame's.
use Rattle.std.specs.Prelude.{ℕ, ◌+◌, ◌-◌, ◌≤◌, ◌<◌, Bool, false, cond, List, ◌≡◌, eqb, ltb, Result, IfOk}
use Rattle.rules.specs.Limits.{most_side}
use Rattle.rules.specs.Answer.{done}
use Rattle.rules.specs.declared.answer.Answer.{Answer}
use Rattle.rules.specs.declared.answer.Size.{Size}
use Rattle.rules_clean.specs.Verdict.{fault_at, rows_verdict}
use Rattle.v0_clean.specs.Row.{Placed, fault_from, Passed}
use Rattle.v0_clean.specs.Faults.{told}
use Rattle.v0_clean.specs.declared.Fault.{Fault}
use Rattle.v0_direct.specs.declared.run.Run.{Run}
use Rattle.v0_clean.specs.declared.heads.OfFour.{OfFour}

-- The same of each of four.
pub record Four (A B C D : Type 0) : Type 0 where
  pub first : A
  pub second : B
  pub third : C
  pub fourth : D

-- Four rows that the frame has, from a row on; and four rows at points.
pub record RowsIn (z : Size) (row : ℕ) : Type 0 where
  pub width : z.width ≤ most_side
  pub height : z.height ≤ most_side
  pub rows_in : row + 4 ≤ z.height

abbrev pub RowsPlaced : Size → OfFour Run → Type 0
RowsPlaced z r = Four (Placed z r.a) (Placed z r.b) (Placed z r.c) (Placed z r.d)

abbrev pub RowsPassed : List ℕ → Size → OfFour Run → OfFour Run → Type 0
RowsPassed s z r r' = Four (Passed s z r.a r'.a) (Passed s z r.b r'.b) (Passed s z r.c r'.c) (Passed s z r.d r'.d)

-- A row's fault, or if it has none what comes next.
abbrev pub or_after : ℕ → ℕ → Answer → Answer
or_after row k next = cond (eqb k 0) next (fault_at row k)

-- The first fault of four rows in their order.
unfoldable pub in_order : List ℕ → Size → ℕ → OfFour Run → Answer
in_order s z row r =
    or_after row (fault_from s z row r.a)
    (or_after (row + 1) (fault_from s z (row + 1) r.b)
    (or_after (row + 2) (fault_from s z (row + 2) r.c)
    (or_after (row + 3) (fault_from s z (row + 3) r.d) done)))

-- Whether four rows are checked side by side from a row on: none is row 0 or 1, the frame has all, and they are not empty.
unfoldable pub four_from : Size → ℕ → Bool
four_from z row = cond (ltb row 2) false (cond (ltb (z.height - row) 4) false (ltb 0 z.width))

-- How many rows are checked from a row on.
abbrev pub part : Size → ℕ → ℕ
part z row = cond (four_from z row) 4 1

-- The verdict on those rows, which the frame has; and how many they are, where it is done.
pub record Parted (s offsets : List ℕ) (z : Size) (row : ℕ) (r : Result ℕ Fault) : Type 0 where
  pub how_many : IfOk r (λ n. n ≡ part z row)
  pub some : 0 < part z row
  pub rows_in : row + part z row ≤ z.height
  pub verdict_is : told r ≡ rows_verdict s offsets z (part z row) row
