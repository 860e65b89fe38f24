-- What is left from a pair of columns on comes to all columns.
use Rattle.std.proofs.Common.{◌+◌, ◌*◌}
use Rattle.v0_cells.proofs.ExchangeLaws.{Pairing}
use Rattle.v0_cells.proofs.exchange.exchange_columns.Given as goal

abbrev pub invariant-loop-pair : goal.invariant-loop-pair
invariant-loop-pair g l = Pairing g.C.Cell.kind l.w l.row l.from l.to l.initial.cells l.cells (l.from + 2 * l.pair)
