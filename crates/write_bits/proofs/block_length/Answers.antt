-- 25 bits, and each length four times.
use native.Mathlib.Omega.{arith}
use Rattle.write_bits.proofs.Laws.{lengths_low, block_length_law}
use Rattle.write_bits.proofs.block_length.Goals as goal

pub overflow_add-result : goal.overflow_add-result
overflow_add-result c = let q = (lengths_low c.args.d _ c.lengths_of-lengths.ensures).each in record { fits = omega (arith, q 0, q 1, q 2, q 3) }

pub overflow_add-result-2 : goal.overflow_add-result-2
overflow_add-result-2 c = let q = (lengths_low c.args.d _ c.lengths_of-lengths.ensures).each in record { fits = omega (arith, q 0, q 1, q 2, q 3) }

pub overflow_add-result-3 : goal.overflow_add-result-3
overflow_add-result-3 c = let q = (lengths_low c.args.d _ c.lengths_of-lengths.ensures).each in record { fits = omega (arith, q 0, q 1, q 2, q 3) }

pub overflow_mul-result : goal.overflow_mul-result
overflow_mul-result c = let q = (lengths_low c.args.d _ c.lengths_of-lengths.ensures).each in record { fits = omega (arith, q 0, q 1, q 2, q 3) }

pub overflow_add-result-4 : goal.overflow_add-result-4
overflow_add-result-4 c = let q = (lengths_low c.args.d _ c.lengths_of-lengths.ensures).each in record { fits = omega (arith, q 0, q 1, q 2, q 3) }

pub overflow_cast-result : goal.overflow_cast-result
overflow_cast-result c = let q = (lengths_low c.args.d _ c.lengths_of-lengths.ensures).each in record { fits = omega (arith, q 0, q 1, q 2, q 3) }

pub returns : goal.returns
returns c = block_length_law c.args.d _ c.lengths_of-lengths.ensures
