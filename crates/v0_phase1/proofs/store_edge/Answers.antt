use native.Mathlib.Omega.{arith}
use borrow.Author.Rules.{rules}
use Rattle.v0_phase1.proofs.ResidualLaws.{storing_begun, storing_on, storing_done}
use Rattle.v0_phase1.proofs.store_edge.Goals as goal

pub loop-k-init : goal.loop-k-init
loop-k-init c = storing_begun _ _ _ _

pub store_residual-requires : goal.store_residual-requires
store_residual-requires c = omega (arith, c.loop-k.invariant.same_length)

pub loop-k-preserved : goal.loop-k-preserved
loop-k-preserved c = storing_on _ _ c.args.residuals _ _ _ _ _ (search rules) (search rules) c.store_residual.auto.out c.stream_column-c.ensures.0 c.store_residual.ensures c.loop-k.invariant

pub returns : goal.returns
returns c = storing_done _ _ c.args.residuals _ _ _ (omega arith) (search rules) c.loop-k.invariant
