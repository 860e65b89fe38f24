-- The sum is the two halves, so neither it nor the product wraps.
use Rattle.std.proofs.Common.{arith}
use Rattle.v0_lanes.proofs.LaneLaws.{halved_is, halved_fits}
use Rattle.v0_lanes.proofs.residuals.halved.Goals as goal

pub overflow_mul-result-2 : goal.overflow_mul-result-2
overflow_mul-result-2 c = let a = c.args in let fits = halved_fits a.d a.n a.whole a.gap c.requires.0 c.requires.1.0 c.requires.1.1 in record { fits = omega (arith, fits) }

pub overflow_add-result : goal.overflow_add-result
overflow_add-result c = let a = c.args in record { fits = halved_fits a.d a.n a.whole a.gap c.requires.0 c.requires.1.0 c.requires.1.1 }

pub returns : goal.returns
returns c = let a = c.args in halved_is a.d a.n a.whole a.gap c.requires.0 c.requires.1.0 c.requires.1.1
