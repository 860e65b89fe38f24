-- Past the last block all columns that have a pair; else two columns before the block's first.
use native.Mathlib.Omega.{arith}
use Rattle.v0_bands.proofs.ExchangeLaws.{column_begins, column_last, column_first}
use Rattle.v0_bands.proofs.freed_column.Goals as goal

pub returns-then-block-blocks : goal.returns-then-block-blocks
returns-then-block-blocks c = column_last c.requires (omega arith)

pub overflow_mul-block : goal.overflow_mul-block
overflow_mul-block c = omega (arith, column_begins c.requires (λ e. omega arith), c.requires.width)

pub returns : goal.returns
returns c = column_first c.requires (λ e. omega arith) _ c.saturating_sub.ensures
