-- A read whose word has 32 bits, cut into the fields that it holds.
use Rattle.std.proofs.Common.{◌≡◌, ℕ, ◌+◌, ◌*◌, ◌/◌, ◌%◌, ◌^◌, ◌≤◌, min, List, [], ◌∷◌, arith}
use Rattle.rules.specs.Reader.{fields}
use Rattle.rules.proofs.ReaderLaws.{total, cut, fields_at_once}
use Rattle.rules.specs.declared.reader.Bits.{Bits}
use Rattle.rules.specs.declared.reader.Got.{Got}
use Rattle.read_bits.specs.Refilled.{Whole}

pub fields_whole : (s : List ℕ) (k n : ℕ) (ns : List ℕ) (b : Bits) (g : Got) → n + total ns ≡ k → k ≤ 32 → Whole s b k g
    → fields s (n ∷ ns) b ≡ record { values = cut (n ∷ ns) g.value; bits = g.bits }
fields_whole s k n ns b g e l w =
    let m : min k 32 ≡ k = omega arith in
    rw (fields_at_once s n ns b (omega (arith, e)) (λ h. w.whole (omega (arith, m, e))), e, ← w.reads)

-- Two fields of n bits.
pub pair_whole : (s : List ℕ) (n : ℕ) (b : Bits) (g : Got) → n ≤ 16 → Whole s b (2 * n) g
    → fields s (n ∷ n ∷ []) b ≡ record { values = g.value / 2 ^ n % 2 ^ n ∷ g.value / 2 ^ 0 % 2 ^ n ∷ []; bits = g.bits }
unfolding cut total
pair_whole s n b g l w =
    let two : n + (n + 0) ≡ 2 * n = omega arith in
    let one : n + 0 ≡ n = omega arith in
    rw one at (fields_whole s (2 * n) n (n ∷ []) b g two (omega arith) w)
