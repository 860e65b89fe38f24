-- The loop: the blocks before a column have been written; then the padding.
use Prim.Native.Nat.{◌*◌}
use Rattle.write_frame.specs.Frames.{coding}
use Rattle.write_frame.proofs.RowLaws.{Rowing}
use Rattle.write_frame.proofs.write.write_row.Given as goal

abbrev pub invariant-loop-block : goal.invariant-loop-block
invariant-loop-block l = Rowing (coding l.format l.size l.samples) l.row l.at l.initial.out l.out l.p (l.block * 16)
