-- What the check is lent: a frame's size within the limits, with an offset for each row; and a row of it.
use Rattle.std.specs.Prelude.{ℕ, ◌+◌, ◌≤◌, ◌<◌, List, length}
use Rattle.rules.specs.Limits.{most_side}
use Rattle.rules.specs.declared.answer.Size.{Size}

pub record OffsetsLent (z : Size) (offsets : List ℕ) : Type 0 where
  pub width : z.width ≤ most_side
  pub height : z.height ≤ most_side
  pub offsets_enough : z.height ≤ length offsets

-- A row of the frame beside the offsets of all.
pub record RowLent (z : Size) (row : ℕ) (offsets : List ℕ) : Type 0 where
  pub lent : OffsetsLent z offsets
  pub row_in : row < z.height

pub record InRow (z : Size) (row : ℕ) : Type 0 where
  pub width : z.width ≤ most_side
  pub height : z.height ≤ most_side
  pub row_in : row < z.height

-- Four rows of it from row 2 on, which are not empty.
pub record FourLent (z : Size) (row : ℕ) (offsets : List ℕ) : Type 0 where
  pub lent : OffsetsLent z offsets
  pub late : 2 ≤ row
  pub rows_in : row + 4 ≤ z.height
  pub wide : 0 < z.width
