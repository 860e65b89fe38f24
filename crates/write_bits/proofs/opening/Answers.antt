-- Lengths below 16 make 25 bits with the opening.
use native.Mathlib.Omega.{arith}
use Rattle.write_bits.proofs.opening.Goals as goal

pub overflow_mul-result : goal.overflow_mul-result
overflow_mul-result c = let q = c.requires.each in record { fits = omega (arith, q 0, q 1, q 2, q 3) }

pub overflow_add-result : goal.overflow_add-result
overflow_add-result c = let q = c.requires.each in record { fits = omega (arith, q 0, q 1, q 2, q 3) }

pub overflow_mul-result-2 : goal.overflow_mul-result-2
overflow_mul-result-2 c = let q = c.requires.each in record { fits = omega (arith, q 0, q 1, q 2, q 3) }

pub overflow_add-result-2 : goal.overflow_add-result-2
overflow_add-result-2 c = let q = c.requires.each in record { fits = omega (arith, q 0, q 1, q 2, q 3) }

pub overflow_mul-result-3 : goal.overflow_mul-result-3
overflow_mul-result-3 c = let q = c.requires.each in record { fits = omega (arith, q 0, q 1, q 2, q 3) }

pub overflow_add-result-3 : goal.overflow_add-result-3
overflow_add-result-3 c = let q = c.requires.each in record { fits = omega (arith, q 0, q 1, q 2, q 3) }

pub overflow_add-result-4 : goal.overflow_add-result-4
overflow_add-result-4 c = let q = c.requires.each in record { fits = omega (arith, q 0, q 1, q 2, q 3) }
