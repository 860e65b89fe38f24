-- Even cells repeat the first of the two before the block, odd ones the second.
use Rattle.std.proofs.Common.{◌≡◌, ◌+◌, ◌*◌, ◌%◌, arith}
use Rattle.rules.specs.V2.{repeated}
use Rattle.v2_cells.proofs.Fill.{filled_none, filled_more}
use Rattle.v2_cells.proofs.base.repeat.Goals as goal

pub loop-pair-init : goal.loop-pair-init
loop-pair-init g c = λ h e. filled_none c.told-cells

pub loop-pair-preserved : goal.loop-pair-preserved
unfolding repeated
loop-pair-preserved g c =
    let p = c.loop-pair.pair in
    let even : 2 * p % 2 ≡ 0 = omega arith in
    let odd : (2 * p + 1) % 2 ≡ 1 = omega arith in
    let next : 2 * (p + 1) ≡ 2 * p + 1 + 1 = omega arith in
    λ h e. rw next (filled_more (filled_more (c.loop-pair.invariant h e) (omega arith) (rw even (c.before-a.ensures h e))) (omega arith) (rw odd (c.before-b.ensures h e)))
