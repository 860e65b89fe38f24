-- What was the same before, and what is left, are the same as the whole is.
use Prim.Native.Nat.{◌≤◌}
use mathlib.Core.Bool.{◌&&◌}
use mathlib.Core.Path.{◌≡◌}
use lib.ListN.{length, drop}
use Rattle.write_packed.specs.Proposal.{same}
use Rattle.entry_convert.proofs.proposal.is_same.Given as goal

abbrev pub invariant-loop-i : goal.invariant-loop-i
invariant-loop-i l = (l.i ≤ length l.frame) × (same l.frame l.meant ≡ (l.alike && same (drop l.i l.frame) (drop l.i l.meant)))
