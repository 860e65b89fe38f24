-- Three ways: an odd row, an even one with another below it, and the last.
use Prim.Native.Nat.{◌+◌}
use native.Mathlib.Omega.{arith}
use Rattle.write_frame.proofs.PlaceLaws.{product, odds_odd, odds_even, odds_last}
use Rattle.write_frame.proofs.residuals.odds_start.Goals as goal

pub overflow_mul-result : goal.overflow_mul-result
overflow_mul-result c = let a = c.args in record { fits = omega (arith, product a.row a.size.width (omega (arith, c.requires.2)) c.requires.1) }

pub returns-then-row-eq1 : goal.returns-then-row-eq1
returns-then-row-eq1 c = let a = c.args in odds_odd a.size.width a.size.height a.row (omega arith)

pub overflow_mul-result-then-row-size : goal.overflow_mul-result-then-row-size
overflow_mul-result-then-row-size c = let a = c.args in record { fits = omega (arith, product (a.row + 1) a.size.width (omega (arith, c.requires.2)) c.requires.1) }

pub returns-then-row-size : goal.returns-then-row-size
returns-then-row-size c = let a = c.args in odds_even a.size.width a.size.height a.row (λ e. omega arith) (omega arith)

pub overflow_mul-result-2 : goal.overflow_mul-result-2
overflow_mul-result-2 c = let a = c.args in record { fits = omega (arith, product a.row a.size.width (omega (arith, c.requires.2)) c.requires.1) }

pub returns : goal.returns
returns c = let a = c.args in odds_last a.size.width a.size.height a.row (omega arith)
