-- A byte is not 0 if the greatest is not.
use mathlib.Core.Path.{ap, ◌∙◌}
use lib.Dec.{ltb}
use Rattle.write_rules.proofs.CallLaws.{above_is}
use Rattle.entry_convert.proofs.convert.is_marked.Goals as goal

pub returns : goal.returns
returns c = ap (ltb 0) c.greatest_of.ensures ∙ above_is 0 _
