-- A stated fill has one value twice, and none has what lies to the left.
use Rattle.frame_blank.specs.MapLent.{turns}
use Rattle.frame_blank.proofs.turns_at.Goals as goal

pub returns-in-Some : goal.returns-in-Some
unfolding turns
returns-in-Some c = rw c.in-Some.is

pub returns-in-None : goal.returns-in-None
unfolding turns
returns-in-None c = rw (c.left_of-first.ensures, c.left_of-second.ensures, c.in-None.is)
