-- What is counted, with the rows that are left, is the frame's.
use Rattle.frame_blank.proofs.FrameLaws.{RowsTallied}
use Rattle.frame_blank.proofs.tally_frame.Given as goal

abbrev pub invariant-loop-row : goal.invariant-loop-row
invariant-loop-row l = RowsTallied l.size l.map l.marked l.runs l.row
