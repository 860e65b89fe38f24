use Rattle.std.proofs.Common.{refl, arith}
use Rattle.v0_cells.proofs.InnerLaws.{putting_begun, putting_on, putting_done}
use Rattle.v0_cells.proofs.inner.put_inner.Goals as goal

pub loop-k-init : goal.loop-k-init
loop-k-init c = putting_begun _ _ _ _ _ _

pub source-p-requires : goal.source-p-requires
source-p-requires c = let a = c.requires in (a.0.rows, (omega (arith, a.0.rows, a.0.wide), (a.1, c.stream_column-c.ensures.1)))

pub loop-k-preserved : goal.loop-k-preserved
loop-k-preserved c = putting_on _ _ _ _ c.args.residuals _ _ _ _ c.source-p.result _ (omega arith) (omega arith) c.stream_column-c.ensures.0 c.source-p.ensures.0 refl c.loop-k.invariant

pub returns : goal.returns
returns c = putting_done _ _ _ _ c.args.residuals _ _ _ (omega arith) c.loop-k.invariant
