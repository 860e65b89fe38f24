-- Each partial sum is within 32 signed bits, so that no step wraps.
use mathlib.Core.Path.{refl}
use native.Mathlib.Omega.{arith}
use lib.IntN.{pos, ◌+ℤ◌, ◌*ℤ◌}
use mir.Syntax.{w32}
use mir.ValLaws.{to_z-of_z}
use Rattle.rules.specs.V2.{value}
use Rattle.v2_cells.proofs.samples.scaled.Goals as goal

pub overflow_add-result-3 : goal.overflow_add-result-3
unfolding value
overflow_add-result-3 c =
    let f = c.requires in
    let m = pos 2 *ℤ c.args.scale in
    simp (c.from.ensures, to_z-of_z w32 (pos c.args.base) (record { sfits = omega arith }), to_z-of_z w32 c.args.d c.ranges.d, to_z-of_z w32 c.args.scale c.ranges.scale, to_z-of_z w32 m (record { sfits = f.twice }), to_z-of_z w32 (m +ℤ pos 1) (record { sfits = f.factor }), to_z-of_z w32 (c.args.d *ℤ (m +ℤ pos 1)) (record { sfits = f.product }), to_z-of_z w32 (pos c.args.base +ℤ c.args.d *ℤ (m +ℤ pos 1)) (record { sfits = f.sum })) (record { sfits = f.whole })

pub returns : goal.returns
unfolding value
returns c =
    let f = c.requires in
    let m = pos 2 *ℤ c.args.scale in
    simp (c.from.ensures, to_z-of_z w32 (pos c.args.base) (record { sfits = omega arith }), to_z-of_z w32 c.args.d c.ranges.d, to_z-of_z w32 c.args.scale c.ranges.scale, to_z-of_z w32 m (record { sfits = f.twice }), to_z-of_z w32 (m +ℤ pos 1) (record { sfits = f.factor }), to_z-of_z w32 (c.args.d *ℤ (m +ℤ pos 1)) (record { sfits = f.product }), to_z-of_z w32 (pos c.args.base +ℤ c.args.d *ℤ (m +ℤ pos 1)) (record { sfits = f.sum }), to_z-of_z w32 (pos c.args.base +ℤ c.args.d *ℤ (m +ℤ pos 1) +ℤ c.args.scale) (record { sfits = f.whole })) refl
