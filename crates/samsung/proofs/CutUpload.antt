-- What a cut upload shows is final: of two calls of the entry points, the second on a longer stream, else of the same decoder, offsets
-- and size, both ended with done or 5 to 8. Where the rules' map of the first has byte 0, that of the second has byte 0 and both left
-- the same sample, whatever the buffers held.
use mathlib.Core.Path.{◌≡◌}
use Prim.Native.Nat.{ℕ, ◌<◌}
use lib.ListN.{get_or}
use Rattle.rules.specs.Frame.{cells}
use Rattle.rules.specs.Answer.{marks}
use Rattle.rules.proofs.Isolation.{Returned, Ran}
use Rattle.rules.proofs.CutCalls.{Grown, calls_final}
use Rattle.samsung.proofs.Isolation.{ended}

-- Of calls that have returned.
abbrev pub CutFinal : {L : Type 0} → (L → Returned) → Type 0
CutFinal {L} call =
    (c d : L) → Grown (call c) (call d) → Ran (call c).answered → Ran (call d).answered
    → (i : ℕ) → i < cells (call c).ask.size → get_or (marks (call c).ask) i 0 ≡ 0
    → (get_or (marks (call d).ask) i 0 ≡ 0) × (get_or (call c).left.samples i 0 ≡ get_or (call d).left.samples i 0)

pub cut_final : CutFinal ended
cut_final c d = calls_final (ended c) (ended d)
