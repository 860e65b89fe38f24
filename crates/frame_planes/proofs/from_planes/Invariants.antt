-- What is written so far, with the rows that are left, is all rows.
use Rattle.frame_planes.specs.Planes.{rows_back}
use Rattle.frame_planes.proofs.FrameLaws.{Back}
use Rattle.frame_planes.proofs.from_planes.Given as goal

abbrev pub invariant-loop-row : goal.invariant-loop-row
invariant-loop-row l = Back (rows_back l.size l.planes) l.size.width l.initial.samples l.samples l.row
