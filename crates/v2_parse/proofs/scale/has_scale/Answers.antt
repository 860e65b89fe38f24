-- The test is the rule's.
use Rattle.std.proofs.Common.{sym}
use Rattle.v2_parse.proofs.scale.has_scale.Goals as goal

pub returns-then-not-fixed_scale : goal.returns-then-not-fixed_scale
returns-then-not-fixed_scale c = simp (sym c.fixed_scale.ensures, c.if-not-fixed_scale.true)

pub returns-else-not-fixed_scale : goal.returns-else-not-fixed_scale
returns-else-not-fixed_scale c = simp (sym c.fixed_scale.ensures, c.if-not-fixed_scale.false)
