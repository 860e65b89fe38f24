-- The common test, told whether the frame is too small.
use Rattle.entry_refusals.proofs.refuse_v2.Goals as goal

pub returns : goal.returns
returns c = rw c.is_too_small.ensures at c.refuse.ensures
