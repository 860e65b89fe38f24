-- The loop: the bits of the blocks before a column have been counted.
use Prim.Native.Nat.{◌*◌}
use Rattle.write_frame.specs.Frames.{coding}
use Rattle.write_frame.proofs.RowLaws.{Counting}
use Rattle.write_frame.proofs.measure.row_length.Given as goal

abbrev pub invariant-loop-block : goal.invariant-loop-block
invariant-loop-block l = Counting (coding l.format l.size l.samples) l.row l.bits (l.block * 16)
