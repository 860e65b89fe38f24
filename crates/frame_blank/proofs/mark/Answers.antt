-- The test as a number.
use mathlib.Core.Path.{◌∙◌}
use Rattle.frame_blank.specs.Blanking.{marked}
use Rattle.frame_blank.proofs.ByteLaws.{bit_is}
use Rattle.frame_blank.proofs.mark.Goals as goal

pub returns : goal.returns
unfolding marked
returns c = c.from.ensures ∙ bit_is _
