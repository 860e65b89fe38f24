-- The loop: the bytes of the rows before a row have been counted.
use Rattle.write_frame.specs.Frames.{coding}
use Rattle.write_frame.proofs.FrameLaws.{Measuring}
use Rattle.write_frame.proofs.measure.rows_length.Given as goal

abbrev pub invariant-loop-row : goal.invariant-loop-row
invariant-loop-row l = Measuring (coding l.format l.size l.samples) l.size.height l.bytes l.row
