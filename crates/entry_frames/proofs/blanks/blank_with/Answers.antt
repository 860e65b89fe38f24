-- The fill is the one that is stated.
use Rattle.std.proofs.Common.{rules}
use Rattle.frame_blank.specs.MapLent.{meant}
use Rattle.entry_frames.proofs.blanks.blank_with.Goals as goal

pub returns : goal.returns
unfolding meant
returns c = search rules
