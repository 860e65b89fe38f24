use Rattle.std.proofs.Common.{refl, arith}
use Rattle.v2_differences.proofs.FourLaws.{reached_start, reached_more, reached_end}
use Rattle.v2_differences.proofs.by_windows.Goals as goal

pub loop-j-init : goal.loop-j-init
loop-j-init c = reached_start _ _ _ _ _ _ _ c.requires.0.few

pub four_at-four-requires : goal.four_at-four-requires
four_at-four-requires c = let l = c.loop-j.invariant in
    let there = c.requires.0.there in
    let small = c.requires.1.most _ c.loop-j-test.true in
    (omega arith, (small, omega (arith, small, there, l.late, l.soon, c.loop-j-test.true)))

pub store_four-requires : goal.store_four-requires
store_four-requires c = omega (arith, c.loop-j-test.true)

pub overflow_mul-q : goal.overflow_mul-q
overflow_mul-q c = omega (arith, c.requires.1.most _ c.loop-j-test.true)

pub overflow_add-q : goal.overflow_add-q
overflow_add-q c = omega (arith, c.requires.1.most _ c.loop-j-test.true, c.loop-j.invariant.soon, c.loop-j-test.true)

pub loop-j-preserved : goal.loop-j-preserved
loop-j-preserved c = let there = c.requires.0.there in
    reached_more _ _ _ _ _ _ _ _ _ _ _ _ _ c.loop-j-test.true refl (c.requires.1.most _ c.loop-j-test.true) there (omega (arith, there)) c.four_at-four.ensures c.store_four.ensures c.loop-j.invariant

pub state_at-requires : goal.state_at-requires
state_at-requires c = let l = c.loop-j.invariant in
    let there = c.requires.0.there in
    (omega (arith, l.late), (omega (arith, l.within, l.soon), omega (arith, there, l.within, l.soon)))

pub returns : goal.returns
returns c = reached_end _ _ _ _ _ _ _ _ _ c.requires.0 c.state_at.ensures c.loop-j.invariant c.loop-j-test.false
