-- What is left of the first rows from a row on comes to them all.
use Rattle.rules.specs.V0.{sample_kind}
use Rattle.v0_direct.proofs.FrameLaws.{First}
use Rattle.v0_direct.proofs.frame.decode_v0_head.Given as goal

abbrev pub invariant-loop-row : goal.invariant-loop-row
invariant-loop-row l = First sample_kind l.src l.offsets l.size l.initial.out l.out l.row
