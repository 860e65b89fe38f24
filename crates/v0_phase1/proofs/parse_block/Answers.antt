-- Where the record stands, the head and the groups by position are the block that the record reads; else the record reads it.
use native.Mathlib.Omega.{arith}
use borrow.Author.Rules.{rules}
use Rattle.v0_parse_window.proofs.GroupLaws.{standing_ahead, ahead_room, after_head, ahead_end, end_room}
use Rattle.v0_phase1.proofs.ResidualLaws.{position_parsed}
use Rattle.v0_phase1.proofs.parse_block.Goals as goal

pub overflow_sub-base : goal.overflow_sub-base
overflow_sub-base c = (c.stands_within.ensures.stands c.if-stands_within.true).fetched

pub overflow_sub-bits : goal.overflow_sub-bits
overflow_sub-bits c = let few = (c.stands_within.ensures.stands c.if-stands_within.true).few in omega arith

pub window_head-head-requires : goal.window_head-head-requires
window_head-head-requires c = (ahead_room (standing_ahead (c.stands_within.ensures.stands c.if-stands_within.true)), c.requires.near)

pub store_groups-end-requires : goal.store_groups-end-requires
store_groups-end-requires c =
    let lent = c.requires.row in
    ((after_head (standing_ahead (c.stands_within.ensures.stands c.if-stands_within.true)) c.window_head-head.ensures), (lent.samples_lent, (search rules, lent.width)))

pub bounds-dirs-k : goal.bounds-dirs-k
bounds-dirs-k c = let pre = c.requires in let lent = pre.row.directions_lent in omega (arith, pre.block_in)

pub state_at-requires : goal.state_at-requires
state_at-requires c =
    let here = (after_head (standing_ahead (c.stands_within.ensures.stands c.if-stands_within.true)) c.window_head-head.ensures) in let ends = c.store_groups-end.ensures.ends in
    end_room (ahead_end here ends)

pub returns-then-stands_within : goal.returns-then-stands_within
returns-then-stands_within c =
    position_parsed (c.stands_within.ensures.stands c.if-stands_within.true).is c.window_head-head.ensures c.store_groups-end.ensures.ends c.store_groups-end.ensures.samples
    c.from.ensures c.state_at.ensures
