use Prim.Native.Nat.{◌+◌}
use native.Mathlib.Omega.{arith}
use borrow.Author.Rules.{rules}
use Rattle.v0_phase1.proofs.ResidualLaws.{storing_begun, storing_on, storing_done, stored_in}
use Rattle.v0_phase1.proofs.store_inner.Goals as goal

pub loop-k-init : goal.loop-k-init
loop-k-init c = storing_begun _ _ _ _

pub bounds-out-col : goal.bounds-out-col
bounds-out-col c = omega (arith, c.loop-k.invariant.same_length, c.stream_column-c.ensures.1)

pub loop-k-preserved : goal.loop-k-preserved
loop-k-preserved c =
    let x = c.stream_column-c in
    let a = c.args in
    storing_on _ _ a.residuals _ _ _ _ _ (search rules) (search rules) (search rules) x.ensures.0 (stored_in (a.col + x.result) a.width _ _ (omega (arith, x.ensures.1))) c.loop-k.invariant

pub returns : goal.returns
returns c = storing_done _ _ c.args.residuals _ _ _ (omega arith) (search rules) c.loop-k.invariant
