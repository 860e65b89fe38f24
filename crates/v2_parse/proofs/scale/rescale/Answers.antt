-- The code is 3, or an index below 3 of the steps.
use Rattle.std.proofs.Common.{arith, w32, ne_eqb, refl}
use mir.ValLaws.{to_z-of_z, to_z_pos}
use Rattle.v2_parse.proofs.HeaderLaws.{got_below, step_fits, rescaled_set, rescaled_step}
use Rattle.v2_parse.proofs.scale.rescale.Goals as goal

pub overflow_cast-result : goal.overflow_cast-result
overflow_cast-result c = record { sfits = omega (arith, got_below _ _ _ _ c.get-set.ensures) }

pub returns-then-code-eq3 : goal.returns-then-code-eq3
returns-then-code-eq3 c =
    rw (to_z_pos w32 c.get-set.result.value (omega (arith, got_below _ _ _ _ c.get-set.ensures)))
    (rescaled_set _ _ _ _ c.get-code.ensures _ _ c.if-code-eq3.true c.get-set.ensures refl)

pub stepped-requires : goal.stepped-requires
stepped-requires c =
    (omega (arith, got_below _ _ _ _ c.get-code.ensures), rw (to_z-of_z w32 c.args.scale c.ranges.scale) (step_fits c.args.scale c.get-code.result.value c.requires))

pub returns : goal.returns
returns c =
    rw (to_z-of_z w32 c.stepped.result (record { sfits = c.stepped.type_inv }))
    (rescaled_step _ _ _ _ c.get-code.ensures _ (ne_eqb _ _ c.if-code-eq3.false) (rw (to_z-of_z w32 c.args.scale c.ranges.scale) at c.stepped.ensures))
