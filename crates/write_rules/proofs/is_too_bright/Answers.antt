-- A sample is too bright if the greatest is.
use mathlib.Core.Path.{ap, ◌∙◌}
use lib.Dec.{ltb}
use Rattle.frame_map.proofs.GreatestLaws.{greatest_is}
use Rattle.write_rules.proofs.CallLaws.{above_is}
use Rattle.write_rules.proofs.is_too_bright.Goals as goal

pub returns : goal.returns
returns c = ap (ltb 16_383) (c.greatest.ensures ∙ greatest_is _) ∙ above_is 16_383 c.args.samples.now
