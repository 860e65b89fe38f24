-- What phase one is lent.
use Rattle.std.specs.Prelude.{ℕ, ◌+◌, ◌≤◌, ◌<◌, List, ℤ, length}
use Rattle.rules.specs.Limits.{most_side}
use Rattle.rules.specs.V0.{blocks_in}
use Rattle.v0_parse.specs.Lengths.{Within, furthest}

-- What the parser of a row is lent: its samples, and a direction byte for each of its blocks. Both may reach further.
pub record RowLent (w : ℕ) (out dirs : List ℕ) : Type 0 where
  pub width : w ≤ most_side
  pub samples_lent : w ≤ length out
  pub directions_lent : blocks_in w ≤ length dirs

-- What the parser of block k is lent: the same, and lengths near enough to 0 for one more block.
pub record BlockLent (w k : ℕ) (ls : List ℤ) (out dirs : List ℕ) : Type 0 where
  pub near : Within furthest ls
  pub row : RowLent w out dirs
  pub block_in : k < blocks_in w

-- What the parser of blocks from block k on is lent: the same, and lengths as near to 0 as the blocks before it leave them.
pub record RunLent (w k : ℕ) (ls : List ℤ) (out dirs : List ℕ) : Type 0 where
  pub near : Within (15 + k) ls
  pub row : RowLent w out dirs
  pub block_in : k < blocks_in w
