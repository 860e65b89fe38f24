-- After i turns the first i cells are the rule's, since each place on the two runs is inside.
use Rattle.v2_cells.specs.Places.{along, cell_from}
use Rattle.v2_cells.proofs.Fill.{Filled}
use Rattle.v2_cells.proofs.base.refer.Given as goal

abbrev pub invariant-loop-i : goal.invariant-loop-i
invariant-loop-i g l = Filled (λ k. cell_from g.C.Cell.kind l.frame l.refs.averaging (along l.refs k)) l.cells l.i
