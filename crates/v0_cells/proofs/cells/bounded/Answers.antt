-- Each way is a case of the rule's two tests.
use Rattle.std.proofs.Common.{◌+◌, arith}
use Rattle.v0_cells.proofs.CellLaws.{product, bounded_both, bounded_source, bounded_place}
use Rattle.v0_cells.proofs.cells.bounded.Goals as goal

pub overflow_mul-limit : goal.overflow_mul-limit
overflow_mul-limit c = record { fits = omega (arith, product c.args.size.width (c.args.size.height + 7) (omega arith) (omega arith)) }

pub returns-then-p-limit : goal.returns-then-p-limit
returns-then-p-limit c = search (bounded_both, arith)

pub returns-else-p-limit : goal.returns-else-p-limit
returns-else-p-limit c = search (bounded_source, arith)

pub returns-else-place-limit : goal.returns-else-place-limit
returns-else-place-limit c = search (bounded_place, arith)
