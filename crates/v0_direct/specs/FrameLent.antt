-- What the direct decoder is lent: a whole frame, a row of it, and a block.
use Rattle.std.specs.Prelude.{ℕ, ◌+◌, ◌/◌, ◌≤◌, ◌<◌, ◌≡◌, List, ℤ, length}
use Rattle.rules.specs.Limits.{most_side}
use Rattle.rules.specs.Frame.{cells}
use Rattle.rules.specs.declared.answer.Size.{Size}
use Rattle.v0_cells.specs.Places.{Whole}
use Rattle.v0_parse.specs.Lengths.{Within, furthest}

-- What a call of the decoder is lent, once refusals 1, 3 and 4 are passed.
pub record FrameLent (z : Size) (offsets out map : List ℕ) : Type 0 where
  pub width : z.width ≤ most_side
  pub height : z.height ≤ most_side
  pub offsets_enough : z.height ≤ length offsets
  pub samples_lent : length out ≡ cells z
  pub map_lent : Whole z map

-- A row of a frame that is lent, with its map or without.
pub record InRow (z : Size) (row : ℕ) (out map : List ℕ) : Type 0 where
  pub width : z.width ≤ most_side
  pub height : z.height ≤ most_side
  pub row_in : row < z.height
  pub samples_lent : length out ≡ cells z
  pub map_lent : Whole z map

-- A block of such a frame, by a row's lengths that are near enough to 0 for one more block.
pub record BlockLent (z : Size) (ls : List ℤ) (out map : List ℕ) : Type 0 where
  pub near : Within furthest ls
  pub samples_lent : length out ≡ cells z
  pub map_lent : Whole z map

-- A run of blocks from a column on, by lengths as near to 0 as they are there.
pub record RunLent (z : Size) (col : ℕ) (ls : List ℤ) (out map : List ℕ) : Type 0 where
  pub near : Within (15 + col / 16) ls
  pub samples_lent : length out ≡ cells z
  pub map_lent : Whole z map
