-- By windows it is the block that the record would read, group by group; where the state does not stand, the record reads it.
use Prim.Native.Nat.{◌-◌}
use native.Mathlib.Omega.{arith}
use Rattle.read_window.specs.Window.{Standing}
use Rattle.v0_parse_window.specs.ByWindow.{Ahead, residuals_ahead}
use Rattle.v0_parse_window.proofs.GroupLaws.{standing_ahead, ahead_room, after_head, ahead_end, end_room, block_read}
use Rattle.v0_direct.proofs.InnerLaws.{inner_decoded}
use Rattle.v0_direct.proofs.row.decode_inner.Goals as goal

pub overflow_sub-base : goal.overflow_sub-base
overflow_sub-base c = (c.stands_within.ensures.stands c.if-stands_within.true).fetched

pub overflow_sub-bits : goal.overflow_sub-bits
overflow_sub-bits c = let few = (c.stands_within.ensures.stands c.if-stands_within.true).few in omega arith

pub window_head-head-requires : goal.window_head-head-requires
window_head-head-requires c = (ahead_room (standing_ahead (c.stands_within.ensures.stands c.if-stands_within.true)), c.requires.1.near)

pub put_groups-end-requires : goal.put_groups-end-requires
put_groups-end-requires c = ((after_head (standing_ahead (c.stands_within.ensures.stands c.if-stands_within.true)) c.window_head-head.ensures), (c.requires.0, c.requires.1.samples_lent))

pub state_at-requires : goal.state_at-requires
state_at-requires c =
    let near : Ahead c.args.src.now (c.args.state.bits.pos - 12) c.window_head-head.result.q residuals_ahead = after_head (standing_ahead (c.stands_within.ensures.stands c.if-stands_within.true)) c.window_head-head.ensures in let end = c.put_groups-end.ensures.ends in
    end_room (ahead_end near end)

pub returns-then-stands_within : goal.returns-then-stands_within
returns-then-stands_within c =
    let stands : Standing c.args.src.now c.args.state.bits 80 = c.stands_within.ensures.stands c.if-stands_within.true in
    let x = rw (← c.state_at.ensures) at (block_read {st = c.args.state} stands.is c.window_head-head.ensures c.put_groups-end.ensures.ends) in
    inner_decoded c.args.src.now c.args.state c.requires.0 _ x _ _ _ _ c.put_groups-end.ensures.samples
    c.mark_block.ensures
