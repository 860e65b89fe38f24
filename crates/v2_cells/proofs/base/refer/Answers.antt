use Rattle.v2_cells.proofs.Fill.{filled_none, filled_more}
use Rattle.v2_cells.proofs.base.refer.Goals as goal

pub loop-i-init : goal.loop-i-init
loop-i-init g c = filled_none c.requires.1

pub loop-i-preserved : goal.loop-i-preserved
loop-i-preserved g c = filled_more c.loop-i.invariant c.loop-i-test.true (rw c.along_from.ensures at c.base_from.ensures)
