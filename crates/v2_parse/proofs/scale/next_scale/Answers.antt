-- A scale that passes a local is its own bits turned back.
use Rattle.std.proofs.Common.{sym, ◌∙◌, w32}
use mir.ValLaws.{to_z-of_z}
use Rattle.v2_parse.proofs.HeaderLaws.{scale_read, scale_kept}
use Rattle.v2_parse.proofs.scale.next_scale.Goals as goal

pub returns-then-has_scale : goal.returns-then-has_scale
returns-then-has_scale c =
    (rw (to_z-of_z w32 c.args.scale c.ranges.scale) at c.rescale.ensures) ∙ sym (scale_read _ _ _ _ _ (sym c.has_scale.ensures ∙ c.if-has_scale.true))

pub returns-else-has_scale : goal.returns-else-has_scale
returns-else-has_scale c =
    rw (to_z-of_z w32 c.args.scale c.ranges.scale) (sym (scale_kept _ _ _ _ _ (sym c.has_scale.ensures ∙ c.if-has_scale.false)))
