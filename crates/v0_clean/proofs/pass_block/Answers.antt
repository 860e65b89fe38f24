-- Where the record stands the head tells how many bits the residuals have, and so where the record that reads them would stand after
-- them; else the record reads them.
use mathlib.Core.Path.{ap}
use native.Mathlib.Omega.{arith}
use Rattle.v0_parse_window.proofs.GroupLaws.{standing_ahead, ahead_room, after_head, end_room}
use Rattle.v0_clean.proofs.PassLaws.{plan_ahead, passed}
use Rattle.v0_clean.proofs.pass_block.Goals as goal

pub overflow_sub-base : goal.overflow_sub-base
overflow_sub-base c = (c.stands_within.ensures.stands c.if-stands_within.true).fetched

pub overflow_sub-bits : goal.overflow_sub-bits
overflow_sub-bits c = let few = (c.stands_within.ensures.stands c.if-stands_within.true).few in omega arith

pub window_head-head-requires : goal.window_head-head-requires
window_head-head-requires c = (ahead_room (standing_ahead (c.stands_within.ensures.stands c.if-stands_within.true)), c.requires)

pub plan_of-plan-requires : goal.plan_of-plan-requires
plan_of-plan-requires c = let near = (after_head (standing_ahead (c.stands_within.ensures.stands c.if-stands_within.true)) c.window_head-head.ensures).soon in omega arith

pub state_at-bits-requires : goal.state_at-bits-requires
state_at-bits-requires c = end_room (plan_ahead (after_head (standing_ahead (c.stands_within.ensures.stands c.if-stands_within.true)) c.window_head-head.ensures) c.plan_of-plan.ensures)

pub returns-then-stands_within : goal.returns-then-stands_within
returns-then-stands_within c =
    passed {st = c.args.state} (c.stands_within.ensures.stands c.if-stands_within.true).is c.window_head-head.ensures (after_head (standing_ahead (c.stands_within.ensures.stands c.if-stands_within.true)) c.window_head-head.ensures) c.plan_of-plan.ensures c.state_at-bits.ensures

pub returns : goal.returns
returns c = ap (λ x. record { up = x.up; row = x.row }) c.read_block-block.ensures
