-- After c turns the first c cells are made, each from the row above or the one above that.
use Rattle.std.proofs.Common.{true, get_or}
use Rattle.v0_cells.proofs.StagedLaws.{Made}
use Rattle.v0_cells.proofs.inner.put_up.Given as goal

abbrev pub invariant-loop-c : goal.invariant-loop-c
invariant-loop-c g l = Made g.C.Cell.kind l.w l.base true (λ i. get_or l.residuals i 0) l.cells (g.C.Cell.kind.constant 0) l.values l.c
