-- The value fits i32, since difference and scale are small, and what holds it below top fits u16.
use native.Mathlib.Omega.{arith}
use mir.Syntax.{w32}
use mir.ValLaws.{to_z-of_z}
use Rattle.rules.proofs.V2Bounds.{value_fits}
use Rattle.rules.proofs.V2Cells.{hold_most}
use Rattle.v2_cells.proofs.samples.sample_of.Goals as goal

pub value_of-requires : goal.value_of-requires
value_of-requires c = rw (to_z-of_z w32 c.args.d c.ranges.d, to_z-of_z w32 c.args.scale c.ranges.scale) (value_fits c.args.base c.args.d c.args.scale (omega arith) c.requires.0 c.requires.1.0)

pub overflow_cast-result : goal.overflow_cast-result
overflow_cast-result c =
    let v = c.value_of.result in
    let e = rw (to_z-of_z w32 v (record { sfits = c.value_of.type_inv })) at c.held.ensures in
    omega (arith, e, hold_most c.args.top v, c.requires.1.1)
