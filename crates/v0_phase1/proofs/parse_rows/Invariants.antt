-- What is left from row r + 2 on comes to all rows; a row's two parts lie within what is lent.
use Rattle.rules.specs.Phases.{phase_one}
use Rattle.v0_phase1.proofs.RowsLaws.{Rows}
use Rattle.v0_phase1.proofs.parse_rows.Given as goal

abbrev pub invariant-loop-r : goal.invariant-loop-r
invariant-loop-r l = Rows l.src l.offsets l.w l.h (phase_one l.src l.offsets l.w) l.initial.out l.out l.initial.dirs l.dirs l.r
