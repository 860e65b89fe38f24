-- What is left from a row on, rows and the pairs that they free, comes to all of them.
use Rattle.v0_direct.proofs.FrameLaws.{Going}
use Rattle.v0_direct.proofs.frame.decode_freeing.Given as goal

abbrev pub invariant-loop-row : goal.invariant-loop-row
invariant-loop-row l = Going l.src l.offsets l.size l.count l.initial.out l.out l.initial.map l.map l.filler l.row
