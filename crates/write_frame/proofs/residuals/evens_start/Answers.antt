-- Two ways, by the row's parity.
use Prim.Native.Nat.{◌-◌}
use native.Mathlib.Omega.{arith}
use Rattle.write_frame.proofs.PlaceLaws.{product, evens_even, evens_odd}
use Rattle.write_frame.proofs.residuals.evens_start.Goals as goal

pub overflow_mul-result : goal.overflow_mul-result
overflow_mul-result c = let a = c.args in record { fits = omega (arith, product a.row a.width (omega (arith, c.requires.1)) c.requires.0) }

pub returns-then-row-eq0 : goal.returns-then-row-eq0
returns-then-row-eq0 c = let a = c.args in evens_even a.width a.row (omega arith)

pub overflow_mul-result-2 : goal.overflow_mul-result-2
overflow_mul-result-2 c = let a = c.args in record { fits = omega (arith, product (a.row - 1) a.width (omega (arith, c.requires.1)) c.requires.0) }

pub overflow_add-result : goal.overflow_add-result
overflow_add-result c = let a = c.args in record { fits = omega (arith, product (a.row - 1) a.width (omega (arith, c.requires.1)) c.requires.0) }

pub returns : goal.returns
returns c = let a = c.args in evens_odd a.width a.row (λ e. omega arith)
