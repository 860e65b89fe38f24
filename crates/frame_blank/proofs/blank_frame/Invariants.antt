-- What is blanked and listed, with the rows that are left, is the frame's.
use Rattle.frame_blank.specs.MapLent.{meant}
use Rattle.frame_blank.proofs.FrameLaws.{RowsBlanked}
use Rattle.frame_blank.proofs.blank_frame.Given as goal

abbrev pub invariant-loop-row : goal.invariant-loop-row
invariant-loop-row l = RowsBlanked (meant l.fill) l.size l.initial.samples l.map l.initial.runs l.samples l.runs l.at l.row
