-- Each half is its rows by columns, and the second leaves the first alone.
use native.Mathlib.Omega.{arith}
use Rattle.frame_planes.proofs.FrameLaws.{half_room, first_length, first_lent, second_room, second_lent, both_halves}
use Rattle.frame_planes.proofs.to_planes.Goals as goal

pub overflow_mul-half : goal.overflow_mul-half
overflow_mul-half c = omega (arith, half_room _ _ _ c.requires)

pub slice_bounds-put_rows-end : goal.slice_bounds-put_rows-end
slice_bounds-put_rows-end c = (half_room _ _ _ c.requires).0

pub slice_bounds-put_rows-end-2 : goal.slice_bounds-put_rows-end-2
slice_bounds-put_rows-end-2 c = first_length _ _ _ c.requires

pub put_rows-requires : goal.put_rows-requires
put_rows-requires c = first_lent _ _ _ c.requires

pub offset_bounds-planes-half : goal.offset_bounds-planes-half
offset_bounds-planes-half c = omega (arith, half_room _ _ _ c.requires)

pub slice_bounds-put_rows-count : goal.slice_bounds-put_rows-count
slice_bounds-put_rows-count c = second_room _ _ _ c.requires c.put_rows.new.half c.put_rows.auto.half

pub slice_bounds-put_rows-start : goal.slice_bounds-put_rows-start
slice_bounds-put_rows-start c = second_room _ _ _ c.requires c.put_rows.new.half c.put_rows.auto.half

pub put_rows-requires-2 : goal.put_rows-requires-2
put_rows-requires-2 c = second_lent _ _ _ c.requires c.put_rows.new.half c.put_rows.auto.half

pub returns : goal.returns
returns c =
    let first = c.put_rows in
    both_halves _ _ _ c.requires first.new.half first.auto.half _ first.ensures c.put_rows-2.ensures
