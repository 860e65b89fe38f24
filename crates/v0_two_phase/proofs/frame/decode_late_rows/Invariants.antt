-- Both phases of what is left from row r + 2 on, with the pairs that they free, come to those of all rows.
use Rattle.v0_phase1.proofs.RowsLaws.{Rows}
use Rattle.v0_two_phase.proofs.RowByRow.{freeing}
use Rattle.v0_two_phase.proofs.frame.decode_late_rows.Given as goal

abbrev pub invariant-loop-r : goal.invariant-loop-r
invariant-loop-r l = Rows l.src l.offsets l.w l.h (freeing l.src l.offsets l.w) l.initial.out l.out l.initial.scratch l.scratch l.r
