use mathlib.Core.Path.{◌∙◌}
use native.Mathlib.Omega.{arith}
use native.Mathlib.Nat.{mul_comm}
use Rattle.frame_planes.proofs.FrameLaws.{row_room, row_lent, back_length, back_none, back_more, back_all}
use Rattle.frame_planes.proofs.from_planes.Goals as goal

pub loop-row-init : goal.loop-row-init
loop-row-init c = back_none _ _ _

pub overflow_mul-at : goal.overflow_mul-at
overflow_mul-at c = omega (arith, row_room c.args.size c.loop-row.row c.requires.within (omega arith), c.requires.written)

pub overflow_add-end : goal.overflow_add-end
overflow_add-end c = omega (arith, row_room c.args.size c.loop-row.row c.requires.within (omega arith), c.requires.written)

pub offset_bounds-samples-at : goal.offset_bounds-samples-at
offset_bounds-samples-at c = omega (arith, row_room c.args.size c.loop-row.row c.requires.within (omega arith), c.requires.written)

pub slice_bounds-take_frame_row-count : goal.slice_bounds-take_frame_row-count
slice_bounds-take_frame_row-count c = omega (arith, row_room c.args.size c.loop-row.row c.requires.within (omega arith), c.requires.written)

pub slice_bounds-take_frame_row-start : goal.slice_bounds-take_frame_row-start
slice_bounds-take_frame_row-start c = omega (arith, row_room c.args.size c.loop-row.row c.requires.within (omega arith), c.requires.written)

pub slice_bounds-take_frame_row-end : goal.slice_bounds-take_frame_row-end
slice_bounds-take_frame_row-end c = omega (arith, row_room c.args.size c.loop-row.row c.requires.within (omega arith), c.requires.written)

pub take_frame_row-requires : goal.take_frame_row-requires
take_frame_row-requires c =
    let l = c.loop-row in
    row_lent _ l.row _ _ l.samples c.requires (omega arith) l.invariant.kept

pub loop-row-preserved : goal.loop-row-preserved
loop-row-preserved c =
    let a = c.args in
    let p = c.requires in
    let l = c.loop-row in
    let t = c.take_frame_row in
    let r = row_room a.size l.row p.within (omega arith) in
    let wide = (row_lent a.size l.row a.planes.now a.samples.now l.samples p (omega arith) l.invariant.kept).written in
    back_more _ (omega (arith, back_length a.size a.planes.now)) (omega (arith, l.invariant.kept, p.written)) (t.auto.to ∙ wide) t.ensures l.invariant

pub returns : goal.returns
returns c =
    let a = c.args in
    let p = c.requires in
    let n = back_length a.size a.planes.now in
    back_all (omega (arith, n)) (rw n (omega (arith, mul_comm a.size.width a.size.height, p.written))) c.loop-row.invariant
