-- The loop's invariant: the stores from k on come to what all sixteen come to.
use Rattle.v2_cells.proofs.Fill.{Stored}
use Rattle.v2_cells.proofs.cell.store.Given as goal

abbrev pub invariant-loop-k : goal.invariant-loop-k
invariant-loop-k g l = Stored l.initial.frame l.cells l.at l.frame l.k
