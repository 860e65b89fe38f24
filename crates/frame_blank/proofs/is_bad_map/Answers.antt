-- A byte is one that no map has if the greatest is.
use mathlib.Core.Path.{ap, ◌∙◌}
use lib.Dec.{ltb}
use Rattle.frame_blank.proofs.ByteLaws.{bad_is}
use Rattle.frame_blank.proofs.is_bad_map.Goals as goal

pub returns : goal.returns
returns c = ap (ltb 3) c.greatest_of.ensures ∙ bad_is _
