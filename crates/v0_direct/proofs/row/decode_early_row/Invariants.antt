-- What is left from a block on comes to the whole row, block by block.
use Prim.Native.Nat.{◌*◌}
use Rattle.v0_direct.proofs.RowLaws.{Rowing}
use Rattle.v0_direct.proofs.row.decode_early_row.Given as goal

abbrev pub invariant-loop-block : goal.invariant-loop-block
invariant-loop-block l = Rowing l.src l.size l.row l.start l.initial.out l.out l.initial.map l.map l.state (l.block * 16)
