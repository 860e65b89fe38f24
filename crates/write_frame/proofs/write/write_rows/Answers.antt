use native.Mathlib.Omega.{arith}
use Rattle.write_frame.proofs.CodingLaws.{unit_is, width_is, coding_unit}
use Rattle.write_frame.proofs.FrameLaws.{frame_begun, stream_length, table_length, row_room, offset_fits, frame_on, frame_gone}
use Rattle.write_frame.proofs.write.write_rows.Goals as goal

pub loop-row-init : goal.loop-row-init
loop-row-init c = frame_begun _ _ _ _ _ (rw unit_is c.requires.1)

pub put_offset-requires : goal.put_offset-requires
put_offset-requires c = offset_fits c.loop-row.invariant (coding_unit _ _ _) (rw width_is c.requires.0.wide) c.requires.0.high c.requires.2

pub write_row-at-requires : goal.write_row-at-requires
write_row-at-requires c =
    let a = c.args in
    let l = c.loop-row in
    (c.requires.0, omega arith, rw (← unit_is a.size a.samples.now a.format) l.invariant.whole, row_room l.invariant (omega arith) c.requires.3)

pub loop-row-preserved : goal.loop-row-preserved
loop-row-preserved c =
    frame_on c.loop-row.invariant (coding_unit _ _ _) _ _ _ (omega arith) c.put_offset.ensures c.write_row-at.ensures.0 c.write_row-at.ensures.1

pub shape_of-out : goal.shape_of-out
shape_of-out c = stream_length c.loop-row.invariant

pub shape_of-offsets : goal.shape_of-offsets
shape_of-offsets c = table_length c.loop-row.invariant

pub returns : goal.returns
returns c =
    let r = frame_gone c.loop-row.invariant (omega arith) in record {
      stream = r.0;
      offsets = r.1;
    }
