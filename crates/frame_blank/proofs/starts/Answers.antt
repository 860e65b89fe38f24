-- The test as a number.
use mathlib.Core.Path.{◌∙◌}
use Rattle.frame_blank.proofs.ByteLaws.{bit_is}
use Rattle.frame_blank.proofs.starts.Goals as goal

pub returns : goal.returns
returns c = c.from.ensures ∙ bit_is _
