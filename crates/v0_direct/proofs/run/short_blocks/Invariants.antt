-- Each turn is a block of the run, and each way out of the loop is where it ends.
use Prim.Native.Nat.{◌+◌, ◌-◌}
use Rattle.v0_lanes.specs.Lengths.{lengths_of}
use Rattle.v0_direct.proofs.RunLaws.{Going}
use Rattle.v0_direct.proofs.run.short_blocks.Given as goal

abbrev pub invariant-loop-col : goal.invariant-loop-col
invariant-loop-col l =
    Going l.src l.base l.at.size l.at.row l.last (record { col = l.initial.col; q = l.initial.q; lengths = lengths_of l.initial.lengths.bytes }) l.initial.out l.initial.map l.out l.map l.col l.q l.lengths.bytes l.up l.head

abbrev pub decreases-loop-col : goal.decreases-loop-col
decreases-loop-col l = l.at.size.width + 16 - l.col
