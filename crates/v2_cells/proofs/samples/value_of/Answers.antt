-- Where the scale is 0, what is left of the value is the base and the difference.
use mathlib.Core.Path.{◌≡◌, sym, ap, ◌∙◌}
use lib.IntN.{pos}
use mir.Syntax.{w32}
use mir.Val.{to_z}
use mir.ValLaws.{to_z-of_z}
use Rattle.v2_cells.proofs.SampleLaws.{value_unscaled}
use Rattle.v2_cells.proofs.samples.value_of.Goals as goal

pub returns-then-scale-eq0 : goal.returns-then-scale-eq0
returns-then-scale-eq0 c =
    let a = c.args in
    let none : a.scale ≡ pos 0 = sym (to_z-of_z w32 a.scale c.ranges.scale) ∙ ap (to_z w32) c.if-scale-eq0.true in
    rw (to_z-of_z w32 c.unscaled.result (record { sfits = c.unscaled.type_inv }), none, value_unscaled a.base a.d) (rw (to_z-of_z w32 a.d c.ranges.d) at c.unscaled.ensures)
