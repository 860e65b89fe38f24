-- The loop: the rows before a row have been written, and their offsets.
use Rattle.write_frame.specs.Frames.{coding}
use Rattle.write_frame.proofs.FrameLaws.{Framing}
use Rattle.write_frame.proofs.write.write_rows.Given as goal

abbrev pub invariant-loop-row : goal.invariant-loop-row
invariant-loop-row l = Framing (coding l.format l.size l.samples) l.size.height l.start l.initial.out l.initial.offsets l.out l.offsets l.at l.row
