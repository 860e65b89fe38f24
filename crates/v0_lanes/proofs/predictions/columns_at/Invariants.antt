-- The first c are there.
use Rattle.v0_lanes.specs.Blocks.{Columns}
use Rattle.v0_lanes.proofs.predictions.columns_at.Given as goal

abbrev pub invariant-loop-c : goal.invariant-loop-c
invariant-loop-c l = Columns l.out l.base l.c l.d
