-- The sum is the four residuals, so neither it nor the product wraps.
use Rattle.std.proofs.Common.{arith}
use Rattle.v0_lanes.proofs.LaneLaws.{signed_lanes_is, signed_lanes_fits}
use Rattle.v0_lanes.proofs.residuals.with_signs.Goals as goal

pub overflow_mul-result : goal.overflow_mul-result
overflow_mul-result c = let a = c.args in let p = c.requires in let fits = signed_lanes_fits a.z a.n a.signs a.fill p.n_bound.0 p.n_bound.1 p.signs_value.0 p.signs_value.1 in record { fits = omega (arith, fits) }

pub overflow_add-result : goal.overflow_add-result
overflow_add-result c = let a = c.args in let p = c.requires in record { fits = signed_lanes_fits a.z a.n a.signs a.fill p.n_bound.0 p.n_bound.1 p.signs_value.0 p.signs_value.1 }

pub returns : goal.returns
returns c = let a = c.args in let p = c.requires in signed_lanes_is a.z a.n a.signs a.fill p.n_bound.0 p.n_bound.1 p.signs_value.0 p.signs_value.1
