use lib.ListN.{length-take, length-drop}
use native.Mathlib.Omega.{arith}
use Rattle.job.proofs.WrittenLaws.{left_step, left_end, part_room}
use Rattle.job.proofs.TextLaws.{rows_parts, no_rows, all_rows, row_fits}
use Rattle.job.proofs.lines.put_rows.Goals as goal

pub loop-row-init : goal.loop-row-init
loop-row-init c = (omega arith, all_rows _ _ _ _ _ _)

pub overflow_mul-first : goal.overflow_mul-first
overflow_mul-first c = omega (arith, row_fits _ _ _ _ c.loop-row-test.true c.requires.height_in_bounds.0)

pub overflow_add-end : goal.overflow_add-end
overflow_add-end c = omega (arith, row_fits _ _ _ _ c.loop-row-test.true c.requires.height_in_bounds.0)

pub offset_bounds-samples-first : goal.offset_bounds-samples-first
offset_bounds-samples-first c = omega (arith, row_fits _ _ _ _ c.loop-row-test.true c.requires.height_in_bounds.0)

pub slice_bounds-put_row-end : goal.slice_bounds-put_row-end
slice_bounds-put_row-end c = omega (arith, row_fits _ _ _ _ c.loop-row-test.true c.requires.height_in_bounds.0)

pub put_row-at-requires : goal.put_row-at-requires
put_row-at-requires c = record {
  map_len = simp (length-take, length-drop, c.requires.height_in_bounds.1);
  room = part_room _ (rows_parts _ _ _ _ _ c.loop-row-test.true c.loop-row.invariant.1) c.requires.room;
}

pub loop-row-preserved : goal.loop-row-preserved
loop-row-preserved c =
    (omega arith, left_step (rows_parts _ _ _ _ _ c.loop-row-test.true c.loop-row.invariant.1) c.put_row-at.ensures)

pub returns : goal.returns
returns c = left_end (no_rows _ _ _ _ _ c.loop-row-test.false c.loop-row.invariant.1)
