-- The head tells the bits of each residual, so each group is the one that the record would read from there on; stored one after another
-- they are the block's.
use native.Mathlib.Omega.{arith}
use Rattle.v0_parse_window.proofs.GroupLaws.{first_in, second_in, third_in, fourth_in, ByPosition, groups_end}
use Rattle.v0_phase1.proofs.ResidualLaws.{groups_stored}
use Rattle.v0_phase1.proofs.store_groups.Goals as goal

pub group_at-a-requires : goal.group_at-a-requires
group_at-a-requires c = (first_in c.requires.0 c.plan_of-plan.ensures).any

pub group_at-b-requires : goal.group_at-b-requires
group_at-b-requires c = (second_in c.requires.0 c.plan_of-plan.ensures).any

pub group_at-c-requires : goal.group_at-c-requires
group_at-c-requires c = (third_in c.requires.0 c.plan_of-plan.ensures).any

pub group_at-d-requires : goal.group_at-d-requires
group_at-d-requires c = (fourth_in c.requires.0 c.plan_of-plan.ensures).any

pub overflow_add-col-3 : goal.overflow_add-col-3
overflow_add-col-3 c = let room = c.requires.1 in omega (arith, room)

pub store_four-requires-4 : goal.store_four-requires-4
store_four-requires-4 c =
    let room = c.requires.1 in
    (omega (arith, room, c.store_four-3.auto.out, c.store_four-2.auto.out, c.store_four.auto.out), omega (arith, room))

pub returns : goal.returns
returns c =
    let a = c.args in
    let x : ByPosition a.src.now a.base a.head c.plan_of-plan.result _ _ _ _
    = record {
      ahead = c.requires.0;
      plans = c.plan_of-plan.ensures;
      first = c.group_at-a.ensures;
      second = c.group_at-b.ensures;
      third = c.group_at-c.ensures;
      fourth = c.group_at-d.ensures;
    } in record {
      ends = groups_end x;
      samples = groups_stored _ _ x _ _ _ _ _ c.requires.1.1.0
          c.store_four.ensures c.store_four-2.ensures c.store_four-3.ensures c.store_four-4.ensures;
    }
