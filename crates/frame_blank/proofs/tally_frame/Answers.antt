use native.Mathlib.Omega.{arith}
use Rattle.frame_blank.proofs.FrameLaws.{row_room, row_length, rows_tallied_none, rows_tallied_more, tallied_few, rows_tallied_all}
use Rattle.frame_blank.proofs.tally_frame.Goals as goal

pub loop-row-init : goal.loop-row-init
loop-row-init c = rows_tallied_none _ _

pub overflow_mul-at : goal.overflow_mul-at
overflow_mul-at c = let r = row_room _ _ c.loop-row.row c.requires (omega arith) in omega arith

pub overflow_add-end : goal.overflow_add-end
overflow_add-end c = let r = row_room _ _ c.loop-row.row c.requires (omega arith) in omega arith

pub slice_bounds-tally_row-count : goal.slice_bounds-tally_row-count
slice_bounds-tally_row-count c = let r = row_room _ _ c.loop-row.row c.requires (omega arith) in omega arith

pub slice_bounds-tally_row-start : goal.slice_bounds-tally_row-start
slice_bounds-tally_row-start c = let r = row_room _ _ c.loop-row.row c.requires (omega arith) in omega arith

pub slice_bounds-tally_row-end : goal.slice_bounds-tally_row-end
slice_bounds-tally_row-end c = let r = row_room _ _ c.loop-row.row c.requires (omega arith) in omega arith

pub tally_row-more-requires : goal.tally_row-more-requires
tally_row-more-requires c =
    let l = c.loop-row in
    let p = c.requires in
    let r = row_room _ _ l.row p (omega arith) in
    let a = c.args in
    omega (arith, row_length a.size.width l.row a.map.now r.0, p.wide)

pub overflow_add-marked : goal.overflow_add-marked
overflow_add-marked c =
    let m = rows_tallied_more c.loop-row.invariant c.tally_row-more.result (omega arith) c.tally_row-more.ensures in
    let few = tallied_few m in
    let p = c.requires in
    let r = row_room _ _ c.loop-row.row p (omega arith) in omega arith

pub overflow_add-runs : goal.overflow_add-runs
overflow_add-runs c =
    let m = rows_tallied_more c.loop-row.invariant c.tally_row-more.result (omega arith) c.tally_row-more.ensures in
    let few = tallied_few m in
    let p = c.requires in
    let r = row_room _ _ c.loop-row.row p (omega arith) in omega arith

pub loop-row-preserved : goal.loop-row-preserved
loop-row-preserved c = rows_tallied_more c.loop-row.invariant c.tally_row-more.result (omega arith) c.tally_row-more.ensures

pub returns : goal.returns
returns c = rows_tallied_all c.loop-row.invariant (omega arith) c.requires.read
