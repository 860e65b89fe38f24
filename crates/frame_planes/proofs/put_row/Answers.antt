-- Each of the row's two parts comes back as its columns, and the rest of the half as it was.
use native.Mathlib.Omega.{arith}
use Rattle.frame_planes.proofs.HalfLaws.{room, row_is_put}
use Rattle.frame_planes.proofs.put_row.Goals as goal

pub overflow_mul-even_at : goal.overflow_mul-even_at
overflow_mul-even_at c = let r = room c.requires in omega arith

pub overflow_add-even_end : goal.overflow_add-even_end
overflow_add-even_end c = let r = room c.requires in omega arith

pub offset_bounds-half-even_at : goal.offset_bounds-half-even_at
offset_bounds-half-even_at c = let r = room c.requires in omega arith

pub slice_bounds-split_row-end : goal.slice_bounds-split_row-end
slice_bounds-split_row-end c = let r = room c.requires in omega arith

pub overflow_mul-odd_at : goal.overflow_mul-odd_at
overflow_mul-odd_at c = let r = room c.requires in omega arith

pub overflow_mul-odd_at-2 : goal.overflow_mul-odd_at-2
overflow_mul-odd_at-2 c = let r = room c.requires in omega arith

pub overflow_add-odd_at : goal.overflow_add-odd_at
overflow_add-odd_at c = let r = room c.requires in omega arith

pub overflow_add-odd_end : goal.overflow_add-odd_end
overflow_add-odd_end c = let r = room c.requires in omega arith

pub offset_bounds-half-odd_at : goal.offset_bounds-half-odd_at
offset_bounds-half-odd_at c = let r = room c.requires in omega arith

pub slice_bounds-split_row-end-2 : goal.slice_bounds-split_row-end-2
slice_bounds-split_row-end-2 c = let r = room c.requires in omega arith

pub returns : goal.returns
returns c =
    let a = c.args in
    row_is_put a.row.now a.half.now a.rows a.k _ _ c.split_row.ensures c.split_row-2.ensures
