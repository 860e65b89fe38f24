-- By the order of numbers the greatest of all bytes and 0 is the greatest number.
use mathlib.Core.Path.{◌∙◌}
use Rattle.frame_map.proofs.GreatestLaws.{greatest_is}
use Rattle.frame_map.proofs.greatest_of.Goals as goal

pub returns : goal.returns
returns c = c.greatest.ensures ∙ greatest_is _
