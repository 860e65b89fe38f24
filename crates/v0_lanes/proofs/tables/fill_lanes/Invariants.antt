-- The numbers before i are there.
use Rattle.v0_lanes.specs.Tables.{shapes}
use Rattle.v0_lanes.proofs.TableLaws.{Filled}
use Rattle.v0_lanes.proofs.tables.fill_lanes.Given as goal

abbrev pub invariant-loop-i : goal.invariant-loop-i
invariant-loop-i l = Filled shapes 96 l.i l.t
