-- The two halves begin at the row's parity and beside it.
use native.Mathlib.Omega.{arith}
use Rattle.write_frame.proofs.DifferenceLaws.{block_in, differences_law}
use Rattle.write_frame.proofs.differences.differences_of.Goals as goal

pub overflow_mul-at : goal.overflow_mul-at
overflow_mul-at c = let e = block_in c.requires.0 c.requires.1 in record { fits = omega arith }

pub overflow_add-at : goal.overflow_add-at
overflow_add-at c = let e = block_in c.requires.0 c.requires.1 in record { fits = omega arith }

pub overflow_add-first : goal.overflow_add-first
overflow_add-first c = let e = block_in c.requires.0 c.requires.1 in record { fits = omega arith }

pub overflow_add-second : goal.overflow_add-second
overflow_add-second c = let e = block_in c.requires.0 c.requires.1 in record { fits = omega arith }

pub prediction-p-requires : goal.prediction-p-requires
prediction-p-requires c = let e = block_in c.requires.0 c.requires.1 in (c.requires.0.block, omega arith, omega arith)

pub prediction-q-requires : goal.prediction-q-requires
prediction-q-requires c = let e = block_in c.requires.0 c.requires.1 in (c.requires.0.block, omega arith, omega arith)

pub halves-requires : goal.halves-requires
halves-requires c = let e = block_in c.requires.0 c.requires.1 in (omega arith, omega arith)

pub returns : goal.returns
returns c =
    differences_law c.requires.0 c.requires.1 _ _ _ c.prediction-p.ensures c.prediction-q.ensures c.halves.ensures
