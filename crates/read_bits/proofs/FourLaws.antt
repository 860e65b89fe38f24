-- Four fields by one read, or by two: what the cuts of a read's value are.
use Rattle.std.proofs.Common.{◌≡◌, ℕ, ◌+◌, ◌*◌, ◌/◌, ◌%◌, ◌^◌, ◌≤◌, List, [], ◌∷◌, arith}
use Rattle.rules.specs.Reader.{four}
use Rattle.rules.proofs.ReaderLaws.{total, cut, four_fields, four_pairs}
use Rattle.rules.specs.declared.reader.Bits.{Bits}
use Rattle.rules.specs.declared.reader.Got.{Got}
use Rattle.read_bits.specs.Refilled.{Whole}
use Rattle.read_bits.proofs.WholeLaws.{fields_whole, pair_whole}

-- The first of those that one read holds, down to the last.
module _ (s : List ℕ) (n : ℕ) where
  pub four_short : (b : Bits) (g : Got) → n ≤ 8 → Whole s b (4 * n) g
      → record { value = g.value / 2 ^ (3 * n) % 2 ^ n ∷ g.value / 2 ^ (2 * n) % 2 ^ n ∷ g.value / 2 ^ n % 2 ^ n ∷ g.value / 2 ^ 0 % 2 ^ n ∷ []; bits = g.bits } ≡ four s n b
  unfolding cut total
  four_short b g l w =
      let all : n + (n + (n + (n + 0))) ≡ 4 * n = omega arith in
      let three : n + (n + (n + 0)) ≡ 3 * n = omega arith in
      let two : n + (n + 0) ≡ 2 * n = omega arith in
      let one : n + 0 ≡ n = omega arith in
      rw (four_fields s n b, fields_whole s (4 * n) n (n ∷ n ∷ n ∷ []) b g all (omega arith) w, three, two, one)

  pub four_medium : (b : Bits) (g h : Got) → n ≤ 16 → Whole s b (2 * n) g → Whole s g.bits (2 * n) h
      → record { value = g.value / 2 ^ n % 2 ^ n ∷ g.value / 2 ^ 0 % 2 ^ n ∷ h.value / 2 ^ n % 2 ^ n ∷ h.value / 2 ^ 0 % 2 ^ n ∷ []; bits = h.bits } ≡ four s n b
  four_medium b g h l w v = rw (four_pairs s n b, pair_whole s n b g l w, pair_whole s n g.bits h l v)
