-- What is written so far is how the two lists in turn begin.
use Prim.Native.Nat.{◌*◌}
use Rattle.frame_planes.specs.Planes.{weave}
use Rattle.frame_planes.proofs.Written.{Written}
use Rattle.frame_planes.proofs.weave_row.Given as goal

abbrev pub invariant-loop-k : goal.invariant-loop-k
invariant-loop-k l = Written (weave l.evens l.odds) l.initial.row l.row (2 * l.k)
