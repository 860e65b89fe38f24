use Rattle.std.proofs.Common.{refl, arith}
use Rattle.std.proofs.lemmas.List.{get_or_read_under}
use Rattle.v0_cells.proofs.StagedLaws.{storing_begun, storing_on, storing_done}
use Rattle.v0_cells.proofs.inner.store.Goals as goal

pub loop-c-init : goal.loop-c-init
loop-c-init g c = storing_begun

pub loop-c-preserved : goal.loop-c-preserved
loop-c-preserved g c = storing_on (omega arith) refl (omega arith) (get_or_read_under c.args.values.now _ _ _ _ c.index-values-c.is (omega arith) refl) c.loop-c.invariant

pub returns : goal.returns
returns g c = storing_done (omega arith) c.loop-c.invariant
