-- Four groups by position are the residuals that the record reads whole; put one after another, they are the whole block.
use mathlib.Core.Path.{◌∙◌}
use native.Mathlib.Omega.{arith}
use borrow.Author.Rules.{rules}
use Rattle.rules.specs.V0.{sample_kind}
use Rattle.v0_parse_window.proofs.GroupLaws.{first_in, second_in, third_in, fourth_in, ByPosition, groups_end}
use Rattle.v0_cells.proofs.InnerLaws.{inner_fits, inner_inside}
use Rattle.v0_cells.proofs.FourLaws.{groups_put}
use Rattle.v0_direct.proofs.row.put_groups.Goals as goal

pub overflow_mul-first : goal.overflow_mul-first
overflow_mul-first c = record { fits = omega (arith, inner_fits c.requires.1.0) }

pub overflow_add-first : goal.overflow_add-first
overflow_add-first c = record { fits = omega (arith, inner_fits c.requires.1.0) }

pub group_at-a-requires : goal.group_at-a-requires
group_at-a-requires c = (first_in c.requires.0 c.plan_of-plan.ensures).any

pub put_four-requires : goal.put_four-requires
put_four-requires c = let i = c.requires.1.0 in (inner_inside i _ (search rules), (inner_fits i, omega arith))

pub group_at-b-requires : goal.group_at-b-requires
group_at-b-requires c = (second_in c.requires.0 c.plan_of-plan.ensures).any

pub put_four-requires-2 : goal.put_four-requires-2
put_four-requires-2 c = let i = c.requires.1.0 in (inner_inside i _ (search rules), (inner_fits i, omega arith))

pub group_at-c-requires : goal.group_at-c-requires
group_at-c-requires c = (third_in c.requires.0 c.plan_of-plan.ensures).any

pub put_four-requires-3 : goal.put_four-requires-3
put_four-requires-3 c =
    let pre = c.requires.1 in
    (inner_inside pre.0 _ (c.put_four-2.auto.out ∙ c.put_four.auto.out ∙ pre.1), (inner_fits pre.0, omega arith))

pub group_at-d-requires : goal.group_at-d-requires
group_at-d-requires c = (fourth_in c.requires.0 c.plan_of-plan.ensures).any

pub put_four-requires-4 : goal.put_four-requires-4
put_four-requires-4 c =
    let pre = c.requires.1 in
    (inner_inside pre.0 _ (c.put_four-3.auto.out ∙ c.put_four-2.auto.out ∙ c.put_four.auto.out ∙ pre.1), (inner_fits pre.0, omega arith))

pub returns : goal.returns
returns c =
    let a = c.args in
    let x : ByPosition a.src.now a.base a.head c.plan_of-plan.result _ _ _ _
    = record {
      ahead = c.requires.0;
      plans = c.plan_of-plan.ensures;
      first = c.group_at-a.ensures;
      second = c.group_at-b.ensures;
      third = c.group_at-c.ensures;
      fourth = c.group_at-d.ensures;
    } in record {
      ends = groups_end x;
      samples = groups_put sample_kind _ _ _ x _ _ _ _ _ c.put_four.ensures c.put_four-2.ensures c.put_four-3.ensures c.put_four-4.ensures;
    }
