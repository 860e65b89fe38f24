-- What is left from a row on has the frame's verdict.
use Prim.Native.Nat.{◌-◌}
use Rattle.v0_clean.proofs.FrameLaws.{Going}
use Rattle.v0_clean.proofs.check_frame.Given as goal

abbrev pub invariant-loop-row : goal.invariant-loop-row
invariant-loop-row l = Going l.src l.offsets l.size l.row

abbrev pub decreases-loop-row : goal.decreases-loop-row
decreases-loop-row l = l.size.height - l.row
