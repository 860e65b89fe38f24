-- Each turn passes over a block of each row; every way out leaves what was passed over.
use mathlib.Core.Path.{◌≡◌}
use Prim.Native.Nat.{◌+◌, ◌-◌, ◌*◌}
use Rattle.v0_clean.specs.Heads.{AllPassed, least_on}
use Rattle.v0_clean.proofs.heads.pass_heads.Given as goal

abbrev pub invariant-loop-t : goal.invariant-loop-t
invariant-loop-t l =
    AllPassed l.src l.size l.initial.t l.t × (l.initial.t.col + 16 * least_on l.src l.size l.initial.t ≡ l.t.col + 16 * least_on l.src l.size l.t)

abbrev pub decreases-loop-t : goal.decreases-loop-t
decreases-loop-t l = l.size.width + 16 - l.t.col
