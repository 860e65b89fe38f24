-- The marked bytes so far, with those that follow each other from here, are all that follow each other.
use Prim.Native.Nat.{◌+◌, ◌-◌, ◌≤◌}
use mathlib.Core.Path.{◌≡◌}
use lib.ListN.{length, drop}
use Rattle.frame_blank.specs.Blanking.{stretch}
use Rattle.frame_blank.proofs.stretch_at.Given as goal

abbrev pub invariant-loop-end : goal.invariant-loop-end
invariant-loop-end l = (l.first ≤ l.end) × ((l.end ≤ length l.map) × (stretch (drop l.first l.map) ≡ l.end - l.first + stretch (drop l.end l.map)))
