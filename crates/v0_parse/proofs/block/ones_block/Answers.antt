-- The count of words is that of 265 bits less those held, rounded up.
use mathlib.Core.Path.{◌≡◌}
use Prim.Native.Nat.{◌+◌, ◌-◌, ◌/◌}
use native.Mathlib.Omega.{arith}
use Rattle.v0_parse.specs.PastEnd.{ones_after, block_of_ones}
use Rattle.v0_parse.proofs.block.ones_block.Goals as goal

pub returns : goal.returns
unfolding block_of_ones ones_after
returns c = let b = c.args.bits in
    let few = c.requires.0 in
    let w : (265 - b.count + 31) / 32 ≡ (296 - b.count) / 32 = omega arith in
    rw (w, c.held_sum.ensures)
