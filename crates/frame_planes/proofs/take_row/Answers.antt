-- The row's two parts in turn are what the half has of it.
use native.Mathlib.Omega.{arith}
use Rattle.frame_planes.proofs.HalfLaws.{room, row_is_taken}
use Rattle.frame_planes.proofs.take_row.Goals as goal

pub overflow_mul-even_at : goal.overflow_mul-even_at
overflow_mul-even_at c = let r = room c.requires in omega arith

pub overflow_add-even_end : goal.overflow_add-even_end
overflow_add-even_end c = let r = room c.requires in omega arith

pub overflow_mul-odd_at : goal.overflow_mul-odd_at
overflow_mul-odd_at c = let r = room c.requires in omega arith

pub overflow_mul-odd_at-2 : goal.overflow_mul-odd_at-2
overflow_mul-odd_at-2 c = let r = room c.requires in omega arith

pub overflow_add-odd_at : goal.overflow_add-odd_at
overflow_add-odd_at c = let r = room c.requires in omega arith

pub overflow_add-odd_end : goal.overflow_add-odd_end
overflow_add-odd_end c = let r = room c.requires in omega arith

pub offset_bounds-half-even_at : goal.offset_bounds-half-even_at
offset_bounds-half-even_at c = let r = room c.requires in omega arith

pub slice_bounds-weave_row-end : goal.slice_bounds-weave_row-end
slice_bounds-weave_row-end c = let r = room c.requires in omega arith

pub offset_bounds-half-odd_at : goal.offset_bounds-half-odd_at
offset_bounds-half-odd_at c = let r = room c.requires in omega arith

pub slice_bounds-weave_row-end-2 : goal.slice_bounds-weave_row-end-2
slice_bounds-weave_row-end-2 c = let r = room c.requires in omega arith

pub returns : goal.returns
returns c =
    let a = c.args in
    row_is_taken a.half.now _ a.rows a.k _ c.weave_row.ensures
