-- Each turn reads one block more by position: its head begins where a block has room, and ends where its residuals begin. So what was read
-- stays a run, and it is one whichever way the loop is left.
use mathlib.Core.Path.{◌≡◌}
use Prim.Native.Nat.{ℕ, ◌-◌}
use Rattle.v0_phase1.specs.Ran.{RanAt}
use Rattle.v0_phase1.proofs.RunLaws.{ending}
use Rattle.v0_phase1.proofs.run.short_blocks.Given as goal

abbrev pub invariant-loop-k : goal.invariant-loop-k
invariant-loop-k l =
    RanAt l.src l.base l.width (record { k = l.initial.k; q = l.initial.q; lengths = l.initial.lengths }) l.initial.out l.initial.dirs (record { k = l.k; q = l.q; lengths = l.lengths }) l.out l.dirs
    × ((f : ℕ) → ending l.src l.base l.width l.last f (record { k = l.initial.k; q = l.initial.q; lengths = l.initial.lengths }) ≡ ending l.src l.base l.width l.last f (record { k = l.k; q = l.q; lengths = l.lengths }))

abbrev pub decreases-loop-k : goal.decreases-loop-k
decreases-loop-k l = l.width - l.k
