use Rattle.std.proofs.Common.{◌+◌, get_or, ap, arith}
use Rattle.v0_lanes.proofs.StoredLaws.{columns_none, columns_more, columns_all}
use Rattle.v0_lanes.proofs.predictions.columns_at.Goals as goal

pub loop-c-init : goal.loop-c-init
loop-c-init c = columns_none _ _

pub loop-c-preserved : goal.loop-c-preserved
loop-c-preserved c = let l = c.loop-c in let a = c.args in
    columns_more a.out.now a.base l.c _ l.d l.invariant (omega arith) (ap (λ i. get_or a.out.now (a.base + i) 0) c.lane_of.ensures.0)

pub returns : goal.returns
returns c = let l = c.loop-c in columns_all _ _ l.c l.d l.invariant (omega arith)
