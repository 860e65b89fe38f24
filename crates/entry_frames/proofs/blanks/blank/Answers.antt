-- The fill is none that is stated.
use Rattle.std.proofs.Common.{rules}
use Rattle.frame_blank.specs.MapLent.{meant}
use Rattle.entry_frames.proofs.blanks.blank.Goals as goal

pub returns : goal.returns
unfolding meant
returns c = search rules
