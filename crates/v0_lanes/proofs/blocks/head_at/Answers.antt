-- The head out of the window is the one that the record reads.
use Rattle.v0_lanes.proofs.HeadLaws.{head_made_at}
use Rattle.v0_lanes.proofs.blocks.head_at.Goals as goal

pub returns : goal.returns
returns c = let a = c.args in
    head_made_at a.src.now a.base a.q _ a.l.bytes _ c.requires.0 c.window.ensures a.l.packed c.packed_head.ensures
