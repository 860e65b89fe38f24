use native.Mathlib.Omega.{arith}
use Rattle.frame_blank.proofs.FrameLaws.{row_room, row_lent, rows_blanked_none, rows_blanked_more, rows_blanked_all}
use Rattle.frame_blank.proofs.blank_frame.Goals as goal

pub loop-row-init : goal.loop-row-init
loop-row-init c = rows_blanked_none _ _ _ _ _

pub overflow_mul-start : goal.overflow_mul-start
overflow_mul-start c = let r = row_room _ _ c.loop-row.row c.requires.map_lent (omega arith) in omega arith

pub overflow_add-end : goal.overflow_add-end
overflow_add-end c = let r = row_room _ _ c.loop-row.row c.requires.map_lent (omega arith) in omega arith

pub offset_bounds-samples-start : goal.offset_bounds-samples-start
offset_bounds-samples-start c = let r = row_room _ _ c.loop-row.row c.requires.map_lent (omega arith) in omega arith

pub slice_bounds-blank_row-end : goal.slice_bounds-blank_row-end
slice_bounds-blank_row-end c =
    let p = c.requires in
    let l = c.loop-row in
    let r = row_room _ _ l.row p.map_lent (omega arith) in omega (arith, l.invariant.kept, p.written, p.map_lent.read)

pub blank_row-at-requires : goal.blank_row-at-requires
blank_row-at-requires c = row_lent c.loop-row.invariant c.requires (omega arith)

pub loop-row-preserved : goal.loop-row-preserved
loop-row-preserved c =
    let r = c.blank_row-at in
    rows_blanked_more c.loop-row.invariant c.requires (omega arith) _ _ _ r.ensures

pub returns : goal.returns
returns c =
    let r = rows_blanked_all (omega arith) c.requires c.loop-row.invariant in record {
      samples = r.0;
      runs = r.1;
    }
