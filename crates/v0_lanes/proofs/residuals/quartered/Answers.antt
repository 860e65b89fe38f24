-- The sum is the four lanes, so neither it nor the product wraps.
use Rattle.std.proofs.Common.{arith}
use Rattle.v0_lanes.proofs.LaneLaws.{quartered_is, quartered_fits}
use Rattle.v0_lanes.proofs.residuals.quartered.Goals as goal

pub overflow_mul-result : goal.overflow_mul-result
overflow_mul-result c = let a = c.args in let p = c.requires in let fits = quartered_fits a.y a.n a.mask a.gap p.n_bound.0 p.n_bound.1.0 p.n_bound.1.1 p.mask_value.0 p.mask_value.1 in record { fits = omega (arith, fits) }

pub overflow_add-result : goal.overflow_add-result
overflow_add-result c = let a = c.args in let p = c.requires in record { fits = quartered_fits a.y a.n a.mask a.gap p.n_bound.0 p.n_bound.1.0 p.n_bound.1.1 p.mask_value.0 p.mask_value.1 }

pub returns : goal.returns
returns c = let a = c.args in let p = c.requires in quartered_is a.y a.n a.mask a.gap p.n_bound.0 p.n_bound.1.0 p.n_bound.1.1 p.mask_value.0 p.mask_value.1
