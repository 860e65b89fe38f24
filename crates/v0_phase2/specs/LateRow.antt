-- What phase two is lent.
use Rattle.std.specs.Prelude.{ℕ, ◌+◌, ◌*◌, ◌<◌, ◌≤◌, List, length}
use Rattle.rules.specs.Limits.{most_side}

-- A row from row 2 on, of w cells.
pub record LateRow (w row : ℕ) (f : List ℕ) : Type 0 where
  pub width : w ≤ most_side
  pub rows_above : 2 ≤ row
  pub row_below : row < most_side
  pub row_lent : row * w + w ≤ length f

-- Sample c of the block at a column of such a row.
pub record LateSample (w row col c : ℕ) : Type 0 where
  pub width : w ≤ most_side
  pub rows_above : 2 ≤ row
  pub row_below : row < most_side
  pub col_in : col < w
  pub sample_in : c < 16
