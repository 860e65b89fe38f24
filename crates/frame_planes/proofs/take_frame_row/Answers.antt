-- The row is one of its half, which starts where its parity says.
use native.Mathlib.Omega.{arith}
use Rattle.frame_planes.proofs.FrameLaws.{take_room, take_lent, taken_back}
use Rattle.frame_planes.proofs.take_frame_row.Goals as goal

pub overflow_mul-start : goal.overflow_mul-start
overflow_mul-start c = omega (arith, take_room c.requires)

pub overflow_mul-start-2 : goal.overflow_mul-start-2
overflow_mul-start-2 c = omega (arith, take_room c.requires)

pub offset_bounds-planes-start : goal.offset_bounds-planes-start
offset_bounds-planes-start c = omega (arith, take_room c.requires)

pub slice_bounds-take_row-count : goal.slice_bounds-take_row-count
slice_bounds-take_row-count c = omega (arith, take_room c.requires)

pub slice_bounds-take_row-start : goal.slice_bounds-take_row-start
slice_bounds-take_row-start c = omega (arith, take_room c.requires)

pub take_row-requires : goal.take_row-requires
take_row-requires c = take_lent _ _ _ _ c.requires

pub returns : goal.returns
returns c = taken_back _ _ _ _ c.requires _ c.take_row.ensures
