-- A point of a row: a column that a block may begin at, and the row's state there.
use Rattle.std.specs.Prelude.{ℕ, ◌+◌, ◌-◌, ◌/◌, ◌%◌, ◌≤◌, List, ◌≡◌}
use Rattle.rules.specs.declared.answer.Size.{Size}
use Rattle.rules_clean.specs.Verdict.{blocks_fault}
use Rattle.v0_parse.specs.Lengths.{Within}
use Rattle.v0_direct.specs.declared.run.Run.{Run}
use Rattle.v0_clean.specs.OffsetsLent.{InRow}

-- A block moves each length by 1 at most, or sets it to at most 15.
pub record Placed (z : Size) (p : Run) : Type 0 where
  pub whole : p.col % 16 ≡ 0
  pub below : p.col ≤ z.width + 15
  pub near : Within (15 + p.col / 16) p.state.lengths

-- The first fault of a row from a point on.
unfoldable pub fault_from : List ℕ → Size → ℕ → Run → ℕ
fault_from s z row p = blocks_fault s z row ((z.width + 15 - p.col) / 16) p.col p.state

-- A point from which on it is k.
pub record Decides (s : List ℕ) (z : Size) (row k : ℕ) (p : Run) : Type 0 where
  pub placed : Placed z p
  pub left : fault_from s z row p ≡ k

-- Blocks passed over from one point to another, in which no row from row 2 on has a fault: its first fault from the one point on is
-- that from the other on.
pub record Passed (s : List ℕ) (z : Size) (p p' : Run) : Type 0 where
  pub placed : Placed z p'
  pub same : (row : ℕ) → 2 ≤ row → InRow z row → fault_from s z row p ≡ fault_from s z row p'
