-- Two differences of one length: by one read, or by two.
use Rattle.std.proofs.Common.{◌≡◌, ℕ, ◌+◌, ◌-◌, ◌*◌, ◌/◌, ◌%◌, ◌^◌, ◌<◌, ◌≤◌, min, List, get_or, set, ℤ, sym, refl, ap, ◌∙◌, arith}
use Rattle.rules.specs.Reader.{read, signed, read_signed}
use Rattle.rules.specs.V2.{position, differences_from}
use Rattle.rules.proofs.ReaderLaws.{fields_pair, read_signed_is}
use Rattle.rules.specs.declared.reader.Bits.{Bits}
use Rattle.rules.specs.declared.reader.Got.{Got}
use Rattle.rules.specs.declared.reader.Taken.{Taken}
use Rattle.read_bits.specs.Refilled.{Whole}
use Rattle.read_bits.proofs.WholeLaws.{pair_whole}
use Rattle.v2_differences.specs.Pairs.{signed_pair}
use Rattle.v2_differences.proofs.DifferenceLaws.{difference_more}

pub pair_cut : (s : List ℕ) (n : ℕ) (b : Bits) (g : Got) (x y : ℤ) → n ≤ 16 → Whole s b (2 * n) g
    → x ≡ signed n (g.value / 2 ^ n % 2 ^ n) → y ≡ signed n (g.value / 2 ^ 0 % 2 ^ n) → record { value = (x, y); bits = g.bits } ≡ signed_pair s n b
unfolding signed_pair
pair_cut s n b g x y l w ex ey =
    let m : min n 32 ≡ n = omega arith in
    let e = sym (fields_pair s n n b) ∙ pair_whole s n b g l w in
    let first : (read s b n).value ≡ g.value / 2 ^ n % 2 ^ n = ap (λ f. get_or f.values 0 0) e in
    let second : (read s (read s b n).bits n).value ≡ g.value / 2 ^ 0 % 2 ^ n = ap (λ f. get_or f.values 1 0) e in
    let rest : (read s (read s b n).bits n).bits ≡ g.bits = ap (λ f. f.bits) e in
    rw (read_signed_is s b n, read_signed_is s (read s b n).bits n, m, ex, ey, ← first, ← second, ← rest)

pub pair_read : (s : List ℕ) (n : ℕ) (b : Bits) (g h : Taken ℤ) → g ≡ read_signed s b n → h ≡ read_signed s g.bits n
    → record { value = (g.value, h.value); bits = h.bits } ≡ signed_pair s n b
unfolding signed_pair
pair_read s n b g h eg eh = rw (eh, eg)

-- Differences k and k + 1, which have one length where k is even.
pub pair_more : (s : List ℕ) (row : ℕ) (ls : List ℕ) (k : ℕ) (ds : List ℤ) (b : Bits) (x : Taken (ℤ × ℤ)) (p q : ℕ) → k < 16 → k % 2 ≡ 0
    → x ≡ signed_pair s (get_or ls (k / 4) 0) b → p ≡ position row k → q ≡ position row (k + 1)
    → differences_from s row ls (16 - k) k (record { values = ds; bits = b })
    ≡ differences_from s row ls (16 - (k + 2)) (k + 2) (record { values = set (set ds p x.value.0) q x.value.1; bits = x.bits })
unfolding signed_pair
pair_more s row ls k ds b x p q h even ex ep eq =
    let n : ℕ = get_or ls (k / 4) 0 in
    let g : Taken ℤ = read_signed s b n in
    let same : (k + 1) / 4 ≡ k / 4 = omega arith in
    let next : k + 1 + 1 ≡ k + 2 = omega arith in
    rw ex
    (difference_more s row ls k ds b g p h refl ep
    ∙ rw next at (difference_more s row ls (k + 1) (set ds p g.value) g.bits (read_signed s g.bits n) q (omega arith) (rw same) eq))
