-- The bytes so far, with the unmarked ones that follow each other from here, are the first one's gap.
use Prim.Native.Nat.{◌+◌}
use mathlib.Core.Path.{◌≡◌}
use lib.ListN.{drop}
use Rattle.frame_blank.specs.MapLent.{gap}
use Rattle.frame_blank.proofs.next_marked.Given as goal

abbrev pub invariant-loop-col : goal.invariant-loop-col
invariant-loop-col l = l.first + gap (drop l.first l.map) ≡ l.col + gap (drop l.col l.map)
