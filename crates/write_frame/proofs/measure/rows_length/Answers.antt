use native.Mathlib.Omega.{arith}
use Rattle.write_frame.proofs.CodingLaws.{width_is, coding_unit}
use Rattle.write_frame.proofs.FrameLaws.{measure_begun, measure_next, measure_on, measure_gone}
use Rattle.write_frame.proofs.measure.rows_length.Goals as goal

pub loop-row-init : goal.loop-row-init
loop-row-init c = measure_begun _ _

pub row_length-bytes-requires : goal.row_length-bytes-requires
row_length-bytes-requires c = (c.requires, omega arith)

pub overflow_add-bytes : goal.overflow_add-bytes
overflow_add-bytes c = record { fits = measure_next c.loop-row.invariant (coding_unit _ _ _) (rw width_is c.requires.wide) c.requires.high _ (omega arith) c.row_length-bytes.ensures }

pub loop-row-preserved : goal.loop-row-preserved
loop-row-preserved c = measure_on c.loop-row.invariant _ (omega arith) c.row_length-bytes.ensures

pub returns : goal.returns
returns c = measure_gone c.loop-row.invariant (omega arith)
