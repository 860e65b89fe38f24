-- Lengths of which a window holds four differences each.
use Rattle.std.specs.Prelude.{ℕ, ◌<◌, ◌≤◌, Bool, ◌&&◌, List, nat_le, slice_index}

-- Whether a window holds four differences of each of four lengths, and what follows.
unfoldable pub short : List ℕ → Bool
short ls = nat_le (slice_index ls 0) 16 && (nat_le (slice_index ls 1) 16 && (nat_le (slice_index ls 2) 16 && nat_le (slice_index ls 3) 16))

pub record Short (ls : List ℕ) : Type 0 where
  pub most : (j : ℕ) → j < 4 → slice_index ls j ≤ 16
