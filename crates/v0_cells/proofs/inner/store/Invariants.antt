-- After c turns the first c cells of the block hold the values.
use Rattle.std.proofs.Common.{get_or}
use Rattle.v0_cells.proofs.StagedLaws.{Storing}
use Rattle.v0_cells.proofs.inner.store.Given as goal

abbrev pub invariant-loop-c : goal.invariant-loop-c
invariant-loop-c g l = Storing g.C.Cell.kind l.base (λ i. get_or l.values i (g.C.Cell.kind.constant 0)) l.initial.cells l.cells l.c
