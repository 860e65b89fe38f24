-- By the format.
use Rattle.write_frame.specs.Frames.{unit}
use Rattle.write_frame.proofs.format.unit_of.Goals as goal

pub returns-in-V0 : goal.returns-in-V0
unfolding unit
returns-in-V0 c = rw c.in-V0.is

pub returns-in-V2 : goal.returns-in-V2
unfolding unit
returns-in-V2 c = rw c.in-V2.is
