-- The numbers before i are there.
use Rattle.v0_lanes.specs.Lengths.{actions}
use Rattle.v0_lanes.proofs.TableLaws.{Filled}
use Rattle.v0_lanes.proofs.tables.fill_heads.Given as goal

abbrev pub invariant-loop-i : goal.invariant-loop-i
invariant-loop-i l = Filled actions 1_024 l.i l.t
