-- No map is lent, or its sixteen marks of the block are made and then stored at the block's place.
use Rattle.rules.specs.Frame.{tabulate}
use Rattle.v2_cells.proofs.Fill.{empty_is}
use Rattle.v2_cells.proofs.marks.mark_block.Goals as goal

pub returns-then-map-eq0 : goal.returns-then-map-eq0
unfolding tabulate
returns-then-map-eq0 c = λ h. rw (empty_is c.args.map.now c.if-map-eq0.true)
