-- Every column lies within the row.
use Rattle.v0_phase1.proofs.ResidualLaws.{Storing}
use Rattle.v0_phase1.proofs.store_inner.Given as goal

abbrev pub invariant-loop-k : goal.invariant-loop-k
invariant-loop-k l = Storing l.width l.col l.residuals l.initial.out l.out l.k
