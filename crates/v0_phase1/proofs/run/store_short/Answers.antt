-- As in store_groups, each group is the one that the record would read from there on. The lengths are short, so that each lies in one
-- window.
use native.Mathlib.Omega.{arith}
use Rattle.v0_parse_window.proofs.GroupLaws.{short_plan, first_in, second_in, third_in, fourth_in, ByPosition, groups_end}
use Rattle.v0_phase1.proofs.ResidualLaws.{groups_stored}
use Rattle.v0_phase1.proofs.run.store_short.Goals as goal

pub four_at-a-requires : goal.four_at-a-requires
four_at-a-requires c = (omega arith, (first_in c.requires.ahead.0 c.plan_of-plan.ensures).short (short_plan c.plan_of-plan.ensures c.requires.short).0)

pub four_at-b-requires : goal.four_at-b-requires
four_at-b-requires c = (omega arith, (second_in c.requires.ahead.0 c.plan_of-plan.ensures).short (short_plan c.plan_of-plan.ensures c.requires.short).1.0)

pub four_at-c-requires : goal.four_at-c-requires
four_at-c-requires c = (omega arith, (third_in c.requires.ahead.0 c.plan_of-plan.ensures).short (short_plan c.plan_of-plan.ensures c.requires.short).1.1.0)

pub overflow_add-col-2 : goal.overflow_add-col-2
overflow_add-col-2 c = let room = c.requires.ahead.1 in omega (arith, room)

pub store_four-requires-3 : goal.store_four-requires-3
store_four-requires-3 c =
    let room = c.requires.ahead.1 in
    (omega (arith, room, c.store_four-2.auto.out, c.store_four.auto.out), omega (arith, room))

pub four_at-d-requires : goal.four_at-d-requires
four_at-d-requires c = (omega arith, (fourth_in c.requires.ahead.0 c.plan_of-plan.ensures).short (short_plan c.plan_of-plan.ensures c.requires.short).1.1.1)

pub overflow_add-col-3 : goal.overflow_add-col-3
overflow_add-col-3 c = let room = c.requires.ahead.1 in omega (arith, room)

pub store_four-requires-4 : goal.store_four-requires-4
store_four-requires-4 c =
    let room = c.requires.ahead.1 in
    (omega (arith, room, c.store_four-3.auto.out, c.store_four-2.auto.out, c.store_four.auto.out), omega (arith, room))

pub returns : goal.returns
returns c =
    let a = c.args in
    let x : ByPosition a.src.now a.base a.head c.plan_of-plan.result c.four_at-a.result c.four_at-b.result c.four_at-c.result c.four_at-d.result
    = record {
      ahead = c.requires.ahead.0;
      plans = c.plan_of-plan.ensures;
      first = c.four_at-a.ensures;
      second = c.four_at-b.ensures;
      third = c.four_at-c.ensures;
      fourth = c.four_at-d.ensures;
    } in record {
      ends = groups_end x;
      samples = groups_stored _ _ x _ _ _ _ _ c.requires.ahead.1.1.0
          c.store_four.ensures c.store_four-2.ensures c.store_four-3.ensures c.store_four-4.ensures;
    }
