-- Where the greatest byte is 0 nothing is marked; else what is counted, with what is left to count, is the row's.
use Rattle.frame_blank.proofs.RowLaws.{Tallied}
use Rattle.frame_blank.proofs.tally_row.Given as goal

abbrev pub invariant-loop-x : goal.invariant-loop-x
invariant-loop-x l = Tallied l.map l.marked l.runs l.before l.x-index
