-- Phase two does the direct decoder's operations, by the residuals that stand in the block's places.
use Rattle.v0_phase2.proofs.PredictionLaws.{late_inside, inner_done}
use Rattle.v0_phase2.proofs.add_inner.Goals as goal

pub add_up-requires : goal.add_up-requires
add_up-requires c = late_inside c.requires.0 c.requires.1

pub add_left-requires : goal.add_left-requires
add_left-requires c = late_inside c.requires.0 c.requires.1

pub returns-then-up : goal.returns-then-up
returns-then-up c = inner_done c.args.up c.requires.0 c.requires.1 (rw c.if-up.true c.add_up.ensures)

pub returns-else-up : goal.returns-else-up
returns-else-up c = inner_done c.args.up c.requires.0 c.requires.1 (rw c.if-up.false c.add_left.ensures)
