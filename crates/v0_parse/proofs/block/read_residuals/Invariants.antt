-- The four residuals of each length complete what was read before to the whole.
use Prim.Native.Nat.{◌-◌, ◌*◌}
use Rattle.v0_parse.proofs.BlockLaws.{Reading}
use Rattle.v0_parse.proofs.block.read_residuals.Given as goal

abbrev pub invariant-loop-j : goal.invariant-loop-j
invariant-loop-j l = Reading l.src l.lengths l.initial.bits l.bits l.residuals (4 * l.j)
