use mathlib.Core.Path.{sym, ◌∙◌}
use native.Mathlib.Omega.{arith}
use Rattle.frame_map.proofs.GreatestLaws.{by_step, by_gone}
use Rattle.frame_map.proofs.greatest.Goals as goal

pub loop-x-preserved : goal.loop-x-preserved
loop-x-preserved g c =
    let l = c.loop-x in
    l.invariant ∙ by_step g.T.Ord.cmp c.args.list.now l.x-index l.most c.max-most.result c.x-item.result (omega arith) c.x-item.is c.max-most.ensures

pub returns : goal.returns
returns g c =
    let l = c.loop-x in
    sym (l.invariant ∙ by_gone g.T.Ord.cmp c.args.list.now l.x-index l.most (omega arith))
