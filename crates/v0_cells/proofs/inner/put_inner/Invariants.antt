-- What is left from sample k on comes to the whole block.
use Rattle.rules.specs.V0.{sample_kind}
use Rattle.v0_cells.proofs.InnerLaws.{Putting}
use Rattle.v0_cells.proofs.inner.put_inner.Given as goal

abbrev pub invariant-loop-k : goal.invariant-loop-k
invariant-loop-k l = Putting sample_kind l.w l.base l.up l.residuals l.initial.out l.out l.k
