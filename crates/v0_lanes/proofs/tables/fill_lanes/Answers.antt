use Rattle.std.proofs.Common.{arith}
use Rattle.v0_lanes.specs.Tables.{shapes}
use Rattle.v0_lanes.proofs.TableLaws.{filled_none, filled_more, filled_all}
use Rattle.v0_lanes.proofs.tables.fill_lanes.Goals as goal

pub loop-i-init : goal.loop-i-init
loop-i-init c = filled_none shapes 96 _ c.requires

pub loop-i-preserved : goal.loop-i-preserved
loop-i-preserved c = let l = c.loop-i in filled_more shapes 96 l.i _ l.t l.invariant (omega arith) c.shape_of.ensures

pub returns : goal.returns
returns c = let l = c.loop-i in filled_all shapes 96 l.i l.t l.invariant (omega arith)
