-- Four lengths are stepped, tested and summed at once, since no byte reaches into the next.
use Rattle.std.proofs.Common.{◌≡◌, ℕ, zero, suc, ◌+◌, ◌-◌, ◌*◌, ◌/◌, ◌%◌, ◌^◌, ◌<◌, ◌≤◌, min, Bool, true, false, cond, ◌&&◌, eqb, ltb, leb, List, [], ◌∷◌, length, get_or, ℤ, pos, negsuc, sym, refl, ap, ◌∙◌, ap₂, lt_of_lt_of_le, mod-lt, mod-eq_of_lt, arith, ext_get_or, pow_pos, pow_mono, shr-shr, ltb-false, ltb-true, le-ltb, eq-eqb, ne_eqb, eqb-true, le-leb, leb-false, leb-true}
use native.Mathlib.Nat.{div-eq_of_lt, div-eq_of_lt-le}
use lib.Bits.{bit_and, and_mask, and_high, and_zero_r}
use lib.IntN.{sub_ℕ}
use lib.Signed.{le_z}
use lib.Pow.{low, field, mod-mod-pow}
use borrow.Author.Tests.{eqb-false}
use Rattle.rules.proofs.Tests.{by-test, clash, both}
use Rattle.v0_parse.specs.Lengths.{stepped}
use Rattle.rules.specs.V0.{length_bits}
use Rattle.v0_parse_window.specs.ByWindow.{length_in, short_length, short}
use Rattle.v0_lanes.specs.Lanes.{lanes}
use Rattle.v0_lanes.specs.Lengths.{byte0, byte1, byte2, byte3, Packed, lengths_of, lengths_after, keep, step, reads, shift, action, actions, left1, left2, left3, left4, HeadOf}
use Rattle.v0_lanes.specs.Tables.{Holds}
use Rattle.v0_lanes.proofs.LaneLaws.{and_lanes}

-- ── One byte ──

at_least : (u n : ℕ) → u ≡ 128 + n → sub_ℕ u 128 ≡ pos n
at_least u n e =
    let l : 128 ≤ u = omega arith in
    let m : u - 128 ≡ n = omega arith in
    rw (le-ltb u 128 l) (ap pos m)

-- A byte after its operation on a length of 0 to 15, x being the four bits that operation 3 reads.
pub record After (op l x u : ℕ) : Type 0 where
  pub low : 127 ≤ u
  pub high : u ≤ 144
  pub is : sub_ℕ u 128 ≡ cond (eqb op 3) (pos x) (stepped op (pos l))

pub after : (op l x : ℕ) → op < 4 → l < 16 → x < 16 → (eqb op 3 ≡ false → x ≡ 0) → After op l x (bit_and l (keep op) + step op + x)
unfolding keep step stepped
after op l x few small fit none = go op few none
  where
    whole : bit_and l 255 ≡ l
    whole = and_mask l 8 ∙ mod-eq_of_lt (omega arith)

    go : (op : ℕ) → op < 4 → (eqb op 3 ≡ false → x ≡ 0) → After op l x (bit_and l (keep op) + step op + x)
    go zero h n = let z : x ≡ 0 = n refl in
        record { low = omega (arith, whole); high = omega (arith, whole); is = at_least (bit_and l 255 + 128 + x) l (omega (arith, whole)) }
    go (suc zero) h n = let z : x ≡ 0 = n refl in
        record { low = omega (arith, whole); high = omega (arith, whole); is = at_least (bit_and l 255 + 129 + x) (l + 1) (omega (arith, whole)) }
    go (suc (suc zero)) h n = let z : x ≡ 0 = n refl in
        record { low = omega (arith, whole); high = omega (arith, whole); is = rw (whole, z) (less l) }
      where
        less : (m : ℕ) → sub_ℕ (m + 127 + 0) 128 ≡ sub_ℕ m 1
        less zero = refl
        less (suc m) = let some : 1 ≤ suc m = omega arith in rw (le-ltb (suc m) 1 some) (at_least (suc m + 127 + 0) (suc m - 1) (omega arith))
    go (suc (suc (suc zero))) h n =
        record { low = omega (arith, and_zero_r l); high = omega (arith, and_zero_r l); is = at_least (bit_and l 0 + 128 + x) x (omega (arith, and_zero_r l)) }
    go (suc (suc (suc (suc m)))) h n = absurd (omega arith)

-- ── The bits that are read ──

-- The four bits of 55 that a byte of the table points to, r lengths having been read before: where the operation reads none, 0.
pub read_bits : (v op r j left : ℕ) → r < 4 → j < 4 → left ≡ 55 - 4 * r
    → v % 2 ^ 55 / 2 ^ (shift op r j % 64 + 8 * j) % 16 ≡ cond (eqb op 3) (v / 2 ^ (left - 4) % 16) 0
unfolding shift
read_bits v op r j left fr fj el = go (eqb op 3)
  where
    m : ℕ
    m = left - 4

    there : (51 - 4 * r - 8 * j) % 64 + 8 * j ≡ m
    there = omega arith

    more : 55 ≡ 51 - m + 4 + m
    more = omega arith

    cut : v % 2 ^ 55 / 2 ^ m % 2 ^ 4 ≡ v / 2 ^ m % 2 ^ 4
    cut =
        ap (λ (x : ℕ). v % 2 ^ x / 2 ^ m % 2 ^ 4) more ∙ ap (λ (x : ℕ). x % 2 ^ 4) (field v (51 - m + 4) m) ∙ mod-mod-pow (v / 2 ^ m) (51 - m) 4

    past : v % 2 ^ 55 / 2 ^ (63 + 8 * j) ≡ 0
    past = div-eq_of_lt (lt_of_lt_of_le (mod-lt v (pow_pos 55)) (pow_mono {i = 55} (omega arith)))

    go : (t : Bool) → v % 2 ^ 55 / 2 ^ (cond t (51 - 4 * r - 8 * j) 63 % 64 + 8 * j) % 16 ≡ cond t (v / 2 ^ (left - 4) % 16) 0
    go true = rw there cut
    go false = rw past

-- The four bits that an operation reads, or 0.
unfoldable pub read_in : ℕ → ℕ → ℕ → ℕ
read_in v at left = cond (eqb (v / 2 ^ at % 4) 3) (v / 2 ^ (left - 4) % 16) 0

-- The operation that stands above `at` bits of v, on a length of 0 to 15: the byte, and how many bits are left.
pub record Stepped (v at left l u : ℕ) : Type 0 where
  pub low : 127 ≤ u
  pub high : u ≤ 144
  pub is : sub_ℕ u 128 ≡ (length_in v at left (pos l)).length
  pub left_is : (length_in v at left (pos l)).left ≡ left - 4 * reads (v / 2 ^ at % 4)

pub stepped_byte : (v at left l : ℕ) → l < 16 → Stepped v at left l (bit_and l (keep (v / 2 ^ at % 4)) + step (v / 2 ^ at % 4) + read_in v at left)
unfolding length_in read_in
stepped_byte v at left l small = by-test (eqb op 3) three other
  where
    op : ℕ
    op = v / 2 ^ at % 4

    few : op < 4
    few = omega arith

    three : eqb op 3 ≡ true → Stepped v at left l (bit_and l (keep op) + step op + read_in v at left)
    three t =
        let e : op ≡ 3 = eqb-true op 3 t in
        let one : reads op ≡ 1 = omega arith in
        let x : ℕ = v / 2 ^ (left - 4) % 16 in
        let a = after op l x few small (omega arith) (λ f. absurd (clash t f)) in
        record { low = rw t a.low; high = rw t a.high; is = rw t (rw t at a.is); left_is = rw (t, one) }

    other : eqb op 3 ≡ false → Stepped v at left l (bit_and l (keep op) + step op + read_in v at left)
    other t =
        let no-three = eqb-false op 3 t in
        let none : left ≡ left - 4 * reads op = omega arith in
        let a = after op l 0 few small (omega arith) (λ f. refl) in
        record { low = rw t a.low; high = rw t a.high; is = rw t (rw t at a.is); left_is = rw t none }

-- Four bits of x, moved down by less, to lie k bits up.
pub lifted : (x s k : ℕ) → bit_and (x / 2 ^ s) (2 ^ (4 + k) - 2 ^ k) ≡ x / 2 ^ (s + k) % 16 * 2 ^ k
lifted x s k = and_high (x / 2 ^ s) 4 k ∙ rw (shr-shr x s k)

-- ── Four bytes ──

-- Each byte out of four.
pub record Bytes (u a b c d : ℕ) : Type 0 where
  pub first : byte0 u ≡ a
  pub second : byte1 u ≡ b
  pub third : byte2 u ≡ c
  pub fourth : byte3 u ≡ d

pub bytes : (u a b c d : ℕ) → a < 256 → b < 256 → c < 256 → u ≡ lanes 8 d c b a → Bytes u a b c d
bytes u a b c d ha hb hc e = record { first = omega arith; second = omega arith; third = omega arith; fourth = omega arith }

keep_below : (op : ℕ) → keep op < 256
unfolding keep
keep_below op = go (eqb op 3)
  where
    go : (t : Bool) → cond t 0 255 < 256
    go true = omega arith
    go false = omega arith

shift_below : (op r j : ℕ) → shift op r j < 64
unfolding shift
shift_below op r j = go (eqb op 3)
  where
    go : (t : Bool) → cond t (51 - 4 * r - 8 * j) 63 < 64
    go true = omega arith
    go false = omega arith

-- The low six bits of each.
pub record Sixes (u a b c d : ℕ) : Type 0 where
  pub first : u % 64 ≡ a % 64 + 8 * 0
  pub second : u / 256 % 64 + 8 ≡ b % 64 + 8 * 1
  pub third : u / 65_536 % 64 + 16 ≡ c % 64 + 8 * 2
  pub fourth : u / 16_777_216 % 64 + 24 ≡ d % 64 + 8 * 3

sixes : (u a b c d : ℕ) → Bytes u a b c d → Sixes u a b c d
sixes u a b c d e =
    record { first = omega (arith, e.first); second = omega (arith, e.second); third = omega (arith, e.third); fourth = omega (arith, e.fourth) }

-- What the lengths are after four operations, each with the four bits that it reads.
module _ (l a b c d p q r s : ℕ) (packed : Packed l) where
  pub sums_are : bit_and l (lanes 8 (keep d) (keep c) (keep b) (keep a)) + lanes 8 (step d) (step c) (step b) (step a) + lanes 8 s r q p
      ≡ lanes 8 (bit_and (byte3 l) (keep d) + step d + s) (bit_and (byte2 l) (keep c) + step c + r) (bit_and (byte1 l) (keep b) + step b + q) (bit_and (byte0 l) (keep a) + step a + p)
  sums_are =
      let parts : l ≡ lanes 8 (byte3 l) (byte2 l) (byte1 l) (byte0 l) = omega arith in
      let kept : bit_and l (lanes 8 (keep d) (keep c) (keep b) (keep a)) ≡ lanes 8 (bit_and (byte3 l) (keep d)) (bit_and (byte2 l) (keep c)) (bit_and (byte1 l) (keep b)) (bit_and (byte0 l) (keep a))
      = ap (λ (x : ℕ). bit_and x (lanes 8 (keep d) (keep c) (keep b) (keep a))) parts
      ∙ and_lanes 8 (byte3 l) (byte2 l) (byte1 l) (byte0 l) (keep d) (keep c) (keep b) (keep a) (omega arith) (omega arith) (omega arith) (keep_below c) (keep_below b) (keep_below a) in
      ap (λ (x : ℕ). x + lanes 8 (step d) (step c) (step b) (step a) + lanes 8 s r q p) kept ∙ omega arith

-- ── The head ──

-- What the table has for the head of v.
pub record Acting (t : List ℕ) (v : ℕ) : Type 0 where
  pub kept : get_or t (v / 2 ^ 55 % 256 * 4) 0 ≡ lanes 8 (keep (v / 2 ^ 55 % 4)) (keep (v / 2 ^ 57 % 4)) (keep (v / 2 ^ 59 % 4)) (keep (v / 2 ^ 61 % 4))
  pub added : get_or t (v / 2 ^ 55 % 256 * 4 + 1) 0 ≡ lanes 8 (step (v / 2 ^ 55 % 4)) (step (v / 2 ^ 57 % 4)) (step (v / 2 ^ 59 % 4)) (step (v / 2 ^ 61 % 4))
  pub shifts : get_or t (v / 2 ^ 55 % 256 * 4 + 2) 0
      ≡ lanes 8 (shift (v / 2 ^ 55 % 4) (reads (v / 2 ^ 61 % 4) + reads (v / 2 ^ 59 % 4) + reads (v / 2 ^ 57 % 4)) 3)
      (shift (v / 2 ^ 57 % 4) (reads (v / 2 ^ 61 % 4) + reads (v / 2 ^ 59 % 4)) 2) (shift (v / 2 ^ 59 % 4) (reads (v / 2 ^ 61 % 4)) 1) (shift (v / 2 ^ 61 % 4) 0 0)
  pub size : get_or t (v / 2 ^ 55 % 256 * 4 + 3) 0 ≡ 9 + 4 * (reads (v / 2 ^ 61 % 4) + reads (v / 2 ^ 59 % 4) + reads (v / 2 ^ 57 % 4) + reads (v / 2 ^ 55 % 4))

pub acting : (t : List ℕ) (v : ℕ) → Holds actions 1_024 t → Acting t v
unfolding action
acting t v h =
    record {
      kept = at (o * 4) 0 (omega arith) (omega arith) (omega arith) ∙ rw (a, b, c, d);
      added = at (o * 4 + 1) 1 (omega arith) (omega arith) (omega arith) ∙ rw (a, b, c, d);
      shifts = at (o * 4 + 2) 2 (omega arith) (omega arith) (omega arith) ∙ rw (a, b, c, d);
      size = at (o * 4 + 3) 3 (omega arith) (omega arith) (omega arith) ∙ rw (a, b, c, d);
    }
  where
    o : ℕ
    o = v / 2 ^ 55 % 256

    a : o / 64 ≡ v / 2 ^ 61 % 4
    a = omega arith

    b : o / 16 % 4 ≡ v / 2 ^ 59 % 4
    b = omega arith

    c : o / 4 % 4 ≡ v / 2 ^ 57 % 4
    c = omega arith

    d : o % 4 ≡ v / 2 ^ 55 % 4
    d = omega arith

    at : (i k : ℕ) → i < 1_024 → i / 4 ≡ o → i % 4 ≡ k → get_or t i 0 ≡ action o k
    at i k l en ek = h.each i l ∙ ap₂ action en ek

-- How many bits are left after each operation.
module _ (v l : ℕ) (packed : Packed l) where
  after1 : left1 v l ≡ 55 - 4 * reads (v / 2 ^ 61 % 4)
  unfolding left1
  after1 = (stepped_byte v 61 55 (byte0 l) packed.first).left_is

  after2 : left2 v l ≡ 55 - 4 * (reads (v / 2 ^ 61 % 4) + reads (v / 2 ^ 59 % 4))
  unfolding left2
  after2 = omega (arith, (stepped_byte v 59 (left1 v l) (byte1 l) packed.second).left_is, after1)

  after3 : left3 v l ≡ 55 - 4 * (reads (v / 2 ^ 61 % 4) + reads (v / 2 ^ 59 % 4) + reads (v / 2 ^ 57 % 4))
  unfolding left3
  after3 = omega (arith, (stepped_byte v 57 (left2 v l) (byte2 l) packed.third).left_is, after2)

  pub after4 : 9 + 4 * (reads (v / 2 ^ 61 % 4) + reads (v / 2 ^ 59 % 4) + reads (v / 2 ^ 57 % 4) + reads (v / 2 ^ 55 % 4)) ≡ 64 - left4 v l
  unfolding left4
  after4 = omega (arith, (stepped_byte v 55 (left3 v l) (byte3 l) packed.fourth).left_is, after3)

  -- The bits that are read, out of the table's places.
  pub reads_are : (h x : ℕ)
      → h ≡ lanes 8 (shift (v / 2 ^ 55 % 4) (reads (v / 2 ^ 61 % 4) + reads (v / 2 ^ 59 % 4) + reads (v / 2 ^ 57 % 4)) 3)
      (shift (v / 2 ^ 57 % 4) (reads (v / 2 ^ 61 % 4) + reads (v / 2 ^ 59 % 4)) 2) (shift (v / 2 ^ 59 % 4) (reads (v / 2 ^ 61 % 4)) 1) (shift (v / 2 ^ 61 % 4) 0 0)
      → x ≡ lanes 8 (v % 2 ^ 55 / 2 ^ (h / 16_777_216 % 64 + 24) % 16) (v % 2 ^ 55 / 2 ^ (h / 65_536 % 64 + 16) % 16) (v % 2 ^ 55 / 2 ^ (h / 256 % 64 + 8) % 16) (v % 2 ^ 55 / 2 ^ (h % 64) % 16)
      → x ≡ lanes 8 (read_in v 55 (left3 v l)) (read_in v 57 (left2 v l)) (read_in v 59 (left1 v l)) (read_in v 61 55)
  unfolding read_in
  reads_are h x eh ex =
      let ra : ℕ = reads (v / 2 ^ 61 % 4) in let rb : ℕ = reads (v / 2 ^ 59 % 4) in let rc : ℕ = reads (v / 2 ^ 57 % 4) in
      let sa = shift_below (v / 2 ^ 61 % 4) 0 0 in let sb = shift_below (v / 2 ^ 59 % 4) ra 1 in let sc = shift_below (v / 2 ^ 57 % 4) (ra + rb) 2 in
      let places = sixes h _ _ _ _ (bytes h _ _ _ _ (omega arith) (omega arith) (omega arith) eh) in
      ex ∙ rw (
        places.first,
        places.second,
        places.third,
        places.fourth,
        read_bits v (v / 2 ^ 61 % 4) 0 0 55 (omega arith) (omega arith) (omega arith),
        read_bits v (v / 2 ^ 59 % 4) ra 1 (left1 v l) (omega arith) (omega arith) after1,
        read_bits v (v / 2 ^ 57 % 4) (ra + rb) 2 (left2 v l) (omega arith) (omega arith) after2,
        read_bits v (v / 2 ^ 55 % 4) (ra + rb + rc) 3 (left3 v l) (omega arith) (omega arith) after3,
      )

  -- The lengths after a head.
  pub lengths_made : (u : ℕ)
      → u ≡ bit_and l (lanes 8 (keep (v / 2 ^ 55 % 4)) (keep (v / 2 ^ 57 % 4)) (keep (v / 2 ^ 59 % 4)) (keep (v / 2 ^ 61 % 4)))
      + lanes 8 (step (v / 2 ^ 55 % 4)) (step (v / 2 ^ 57 % 4)) (step (v / 2 ^ 59 % 4)) (step (v / 2 ^ 61 % 4))
      + lanes 8 (read_in v 55 (left3 v l)) (read_in v 57 (left2 v l)) (read_in v 59 (left1 v l)) (read_in v 61 55)
      → (u < 2 ^ 32)
      × (lengths_after u ≡ (length_in v 61 55 (pos (byte0 l))).length
      ∷ (length_in v 59 (left1 v l) (pos (byte1 l))).length
      ∷ (length_in v 57 (left2 v l) (pos (byte2 l))).length
      ∷ (length_in v 55 (left3 v l) (pos (byte3 l))).length
      ∷ [])
  unfolding lengths_after
  lengths_made u e =
      let a = stepped_byte v 61 55 (byte0 l) packed.first in
      let b = stepped_byte v 59 (left1 v l) (byte1 l) packed.second in
      let c = stepped_byte v 57 (left2 v l) (byte2 l) packed.third in
      let d = stepped_byte v 55 (left3 v l) (byte3 l) packed.fourth in
      let sum = e ∙ sums_are l (v / 2 ^ 61 % 4) (v / 2 ^ 59 % 4) (v / 2 ^ 57 % 4) (v / 2 ^ 55 % 4) (read_in v 61 55) (read_in v 59 (left1 v l)) (read_in v 57 (left2 v l)) (read_in v 55 (left3 v l)) packed in
      let each = bytes u _ _ _ _ (omega (arith, a.high)) (omega (arith, b.high)) (omega (arith, c.high)) sum in
      (omega (arith, sum, a.high, b.high, c.high, d.high), rw (each.first, each.second, each.third, each.fourth, a.is, b.is, c.is, d.is))

-- ── The test ──

-- A length is 0 to 15 if the four high bits of its byte are those of 128.
short_is : (b : ℕ) → b < 256 → short_length (sub_ℕ b 128) ≡ eqb (b / 16 % 16 * 16) 128
unfolding short_length
short_is b h =
    by-test (ltb b 128)
    (λ t. let l : b < 128 = ltb-true b 128 t in rw (t, ne_eqb (b / 16 % 16 * 16) 128 (λ e. omega arith)))
    (λ t. let l : 128 ≤ b = ltb-false b 128 t in
    rw t (by-test (leb (b - 128) 15)
    (λ u. let m : b - 128 ≤ 15 = leb-true (b - 128) 15 u in let n : b / 16 ≡ 8 = div-eq_of_lt-le 16 (omega arith) (omega arith) in rw (le-leb 0 (b - 128) (omega arith), u, n))
    (λ u. let m : 15 < b - 128 = leb-false (b - 128) 15 u in let n : 9 ≤ b / 16 = omega arith in let r : b / 16 % 16 ≡ b / 16 = mod-eq_of_lt (omega arith) in
    rw (le-leb 0 (b - 128) (omega arith), u, ne_eqb (b / 16 % 16 * 16) 128 (λ e. omega arith)))))

-- Four bytes are 128 if their number is the one of four such.
four_equal : (a b c d : ℕ) → a < 256 → b < 256 → c < 256 → eqb (lanes 8 d c b a) 2_155_905_152 ≡ (eqb a 128 && (eqb b 128 && (eqb c 128 && eqb d 128)))
four_equal a b c d ha hb hc = go (eqb a 128) (eqb b 128) (eqb c 128) (eqb d 128) refl refl refl refl
  where
    go : (p q r s : Bool) → eqb a 128 ≡ p → eqb b 128 ≡ q → eqb c 128 ≡ r → eqb d 128 ≡ s → eqb (lanes 8 d c b a) 2_155_905_152 ≡ (p && (q && (r && s)))
    go true true true true ea eb ec ed = eq-eqb (lanes 8 d c b a) 2_155_905_152 (omega (arith, eqb-true a 128 ea, eqb-true b 128 eb, eqb-true c 128 ec, eqb-true d 128 ed))
    go false q r s ea eb ec ed = ne_eqb (lanes 8 d c b a) 2_155_905_152 (λ e. eqb-false a 128 ea (omega arith))
    go true false r s ea eb ec ed = ne_eqb (lanes 8 d c b a) 2_155_905_152 (λ e. eqb-false b 128 eb (omega arith))
    go true true false s ea eb ec ed = ne_eqb (lanes 8 d c b a) 2_155_905_152 (λ e. eqb-false c 128 ec (omega arith))
    go true true true false ea eb ec ed = ne_eqb (lanes 8 d c b a) 2_155_905_152 (λ e. eqb-false d 128 ed (omega arith))

-- A byte of a length of 0 to 15 is 128 more.
short_byte : (b : ℕ) → b < 256 → short_length (sub_ℕ b 128) ≡ true → sub_ℕ b 128 ≡ pos (b % 16)
short_byte b h e =
    let m : b / 16 % 16 * 16 ≡ 128 = eqb-true (b / 16 % 16 * 16) 128 (sym (short_is b h) ∙ e) in
    let r : b / 16 % 16 ≡ b / 16 = mod-eq_of_lt (omega arith) in
    at_least b (b % 16) (omega arith)

module _ (u : ℕ) (fit : u < 2 ^ 32) where
  -- A mask of each byte.
  masked : (m : ℕ) → m < 256 → bit_and u (lanes 8 m m m m) ≡ lanes 8 (bit_and (byte3 u) m) (bit_and (byte2 u) m) (bit_and (byte1 u) m) (bit_and (byte0 u) m)
  masked m h =
      let parts : u ≡ lanes 8 (byte3 u) (byte2 u) (byte1 u) (byte0 u) = omega arith in
      ap (λ (x : ℕ). bit_and x (lanes 8 m m m m)) parts ∙ and_lanes 8 (byte3 u) (byte2 u) (byte1 u) (byte0 u) m m m m (omega arith) (omega arith) (omega arith) h h h

  pub all_short_is : eqb (bit_and u 4_042_322_160) 2_155_905_152 ≡ short (lengths_after u)
  unfolding short lengths_after
  all_short_is =
      let high : bit_and u (lanes 8 240 240 240 240) ≡ lanes 8 (byte3 u / 16 % 16 * 16) (byte2 u / 16 % 16 * 16) (byte1 u / 16 % 16 * 16) (byte0 u / 16 % 16 * 16)
      = masked 240 (omega arith) ∙ rw (and_high (byte3 u) 4 4, and_high (byte2 u) 4 4, and_high (byte1 u) 4 4, and_high (byte0 u) 4 4) in
      ap (λ (x : ℕ). eqb x 2_155_905_152) high
      ∙ four_equal (byte0 u / 16 % 16 * 16) (byte1 u / 16 % 16 * 16) (byte2 u / 16 % 16 * 16) (byte3 u / 16 % 16 * 16) (omega arith) (omega arith) (omega arith)
      ∙ rw (short_is (byte0 u) (omega arith), short_is (byte1 u) (omega arith), short_is (byte2 u) (omega arith), short_is (byte3 u) (omega arith))

  low_bits : Bytes (bit_and u 252_645_135) (byte0 u % 16) (byte1 u % 16) (byte2 u % 16) (byte3 u % 16)
  low_bits =
      bytes _ _ _ _ _ (omega arith) (omega arith) (omega arith)
      (masked 15 (omega arith) ∙ rw (and_mask (byte3 u) 4, and_mask (byte2 u) 4, and_mask (byte1 u) 4, and_mask (byte0 u) 4))

  pub low_packed : Packed (bit_and u 252_645_135)
  low_packed =
      let e = low_bits in
      record { first = omega (arith, e.first); second = omega (arith, e.second); third = omega (arith, e.third); fourth = omega (arith, e.fourth) }

  pub low_lengths : short (lengths_after u) ≡ true → lengths_of (bit_and u 252_645_135) ≡ lengths_after u
  unfolding short lengths_of lengths_after
  low_lengths t =
      let e = low_bits in
      let s₀ = both (short_length (sub_ℕ (byte0 u) 128)) (short_length (sub_ℕ (byte1 u) 128) && (short_length (sub_ℕ (byte2 u) 128) && short_length (sub_ℕ (byte3 u) 128))) t in
      let s₁ = both (short_length (sub_ℕ (byte1 u) 128)) (short_length (sub_ℕ (byte2 u) 128) && short_length (sub_ℕ (byte3 u) 128)) s₀.1 in
      let s₂ = both (short_length (sub_ℕ (byte2 u) 128)) (short_length (sub_ℕ (byte3 u) 128)) s₁.1 in
      rw (
        e.first,
        e.second,
        e.third,
        e.fourth,
        short_byte (byte0 u) (omega arith) s₀.0,
        short_byte (byte1 u) (omega arith) s₁.0,
        short_byte (byte2 u) (omega arith) s₂.0,
        short_byte (byte3 u) (omega arith) s₂.1,
      )

-- ── In and out ──

-- A short length is the number of its bits.
short_pos : (l : ℤ) → short_length l ≡ true → (l ≡ pos (length_bits l)) × (length_bits l < 16)
unfolding short_length length_bits
short_pos (pos n) e =
    let few : n ≤ 15 = leb-true n 15 (both (le_z (pos 0) (pos n)) (leb n 15) e).1 in
    let m : n ≡ min n 32 = omega arith in
    (ap pos m, omega arith)
short_pos (negsuc n) e = absurd (clash e refl)

-- Four short lengths as four bytes.
pub packed_are : (ls : List ℤ) (a b c d : ℕ) → length ls ≡ 4 → short ls ≡ true → a ≡ length_bits (get_or ls 0 (pos 0)) → b ≡ length_bits (get_or ls 1 (pos 0))
    → c ≡ length_bits (get_or ls 2 (pos 0)) → d ≡ length_bits (get_or ls 3 (pos 0))
    → Packed (a % 16 + b % 16 * 256 + c % 16 * 65_536 + d % 16 * 16_777_216) × (lengths_of (a % 16 + b % 16 * 256 + c % 16 * 65_536 + d % 16 * 16_777_216) ≡ ls)
unfolding short lengths_of
packed_are ls a b c d four e ea eb ec ed =
    let s₀ = both (short_length (get_or ls 0 (pos 0))) (short_length (get_or ls 1 (pos 0)) && (short_length (get_or ls 2 (pos 0)) && short_length (get_or ls 3 (pos 0)))) e in
    let s₁ = both (short_length (get_or ls 1 (pos 0))) (short_length (get_or ls 2 (pos 0)) && short_length (get_or ls 3 (pos 0))) s₀.1 in
    let s₂ = both (short_length (get_or ls 2 (pos 0))) (short_length (get_or ls 3 (pos 0))) s₁.1 in
    let p₀ = short_pos _ s₀.0 in let p₁ = short_pos _ s₁.0 in let p₂ = short_pos _ s₂.0 in let p₃ = short_pos _ s₂.1 in
    let u : ℕ = a % 16 + b % 16 * 256 + c % 16 * 65_536 + d % 16 * 16_777_216 in
    let la : a < 16 = omega (arith, ea, p₀.1) in let lb : b < 16 = omega (arith, eb, p₁.1) in let lc : c < 16 = omega (arith, ec, p₂.1) in let ld : d < 16 = omega (arith, ed, p₃.1) in
    let x = bytes u a b c d (omega arith) (omega arith) (omega arith) (omega arith) in (
      record { first = omega (arith, x.first); second = omega (arith, x.second); third = omega (arith, x.third); fourth = omega (arith, x.fourth) },
      rw (x.first, x.second, x.third, x.fourth, ea, eb, ec, ed, ← p₀.0, ← p₁.0, ← p₂.0, ← p₃.0) (listed ls four),
    )
  where
    listed : (ls : List ℤ) → length ls ≡ 4 → get_or ls 0 (pos 0) ∷ get_or ls 1 (pos 0) ∷ get_or ls 2 (pos 0) ∷ get_or ls 3 (pos 0) ∷ [] ≡ ls
    listed ls e = ext_get_or (pos 0) _ ls (sym e) go
      where
        go : (i : ℕ) → i < 4 → get_or (get_or ls 0 (pos 0) ∷ get_or ls 1 (pos 0) ∷ get_or ls 2 (pos 0) ∷ get_or ls 3 (pos 0) ∷ []) i (pos 0) ≡ get_or ls i (pos 0)
        go zero l = refl
        go (suc zero) l = refl
        go (suc (suc zero)) l = refl
        go (suc (suc (suc zero))) l = refl
        go (suc (suc (suc (suc i)))) l = absurd (omega arith)

-- ── The groups ──

-- The bytes of a product with ones are the sums of the bytes from the lowest on, since no sum reaches 256.
pub record Sums (m a b c d : ℕ) : Type 0 where
  pub second : m / 256 % 256 ≡ a + b
  pub third : m / 65_536 % 256 ≡ a + b + c
  pub fourth : m / 16_777_216 % 256 ≡ a + b + c + d

pub sums : (l : ℕ) → Packed l → Sums (l * 16_843_009) (byte0 l) (byte1 l) (byte2 l) (byte3 l)
sums l p = made (l * 16_843_009) (byte0 l) (byte1 l) (byte2 l) (byte3 l) p.first p.second p.third p.fourth (omega arith)
  where
    made : (m a b c d : ℕ) → a < 16 → b < 16 → c < 16 → d < 16
        → m ≡ (((((d * 256 + (c + d)) * 256 + (b + c + d)) * 256 + (a + b + c + d)) * 256 + (a + b + c)) * 256 + (a + b)) * 256 + a → Sums m a b c d
    made m a b c d ha hb hc hd e =
        let high : ℕ = (d * 256 + (c + d)) * 256 + (b + c + d) in
        let m₁ : m / 256 ≡ ((high * 256 + (a + b + c + d)) * 256 + (a + b + c)) * 256 + (a + b) = div-eq_of_lt-le 256 (omega arith) (omega arith) in
        let m₂ : m / 65_536 ≡ (high * 256 + (a + b + c + d)) * 256 + (a + b + c) = div-eq_of_lt-le 65_536 (omega arith) (omega arith) in
        let m₃ : m / 16_777_216 ≡ high * 256 + (a + b + c + d) = div-eq_of_lt-le 16_777_216 (omega arith) (omega arith) in
        record { second = ap (λ (x : ℕ). x % 256) m₁ ∙ low _ 8 (omega arith); third = ap (λ (x : ℕ). x % 256) m₂ ∙ low _ 8 (omega arith); fourth = ap (λ (x : ℕ). x % 256) m₃ ∙ low _ 8 (omega arith) }

-- ── The head as the code makes it ──

-- The four bits of each, moved to its byte.
pub nibbles_are : (x s : ℕ)
    → x / 2 ^ (s % 64) % 16 + bit_and (x / 2 ^ (s / 256 % 64)) 3_840 + bit_and (x / 2 ^ (s / 65_536 % 64)) 983_040 + bit_and (x / 2 ^ (s / 16_777_216 % 64)) 251_658_240
    ≡ lanes 8 (x / 2 ^ (s / 16_777_216 % 64 + 24) % 16) (x / 2 ^ (s / 65_536 % 64 + 16) % 16) (x / 2 ^ (s / 256 % 64 + 8) % 16) (x / 2 ^ (s % 64) % 16)
nibbles_are x s = omega (arith, lifted x (s / 256 % 64) 8, lifted x (s / 65_536 % 64) 16, lifted x (s / 16_777_216 % 64) 24)

pub nibbles_fit : (x s : ℕ)
    → x / 2 ^ (s % 64) % 16 + bit_and (x / 2 ^ (s / 256 % 64)) 3_840 + bit_and (x / 2 ^ (s / 65_536 % 64)) 983_040 + bit_and (x / 2 ^ (s / 16_777_216 % 64)) 251_658_240 < 2 ^ 32
nibbles_fit x s = rw (nibbles_are x s) (omega arith)

module _ (t : List ℕ) (v l x : ℕ) (packed : Packed l) (table : Holds actions 1_024 t)
    (ex : x ≡ (let h = get_or t (v / 2 ^ 55 % 256 * 4 + 2) 0 in
    lanes 8 (v % 2 ^ 55 / 2 ^ (h / 16_777_216 % 64 + 24) % 16) (v % 2 ^ 55 / 2 ^ (h / 65_536 % 64 + 16) % 16) (v % 2 ^ 55 / 2 ^ (h / 256 % 64 + 8) % 16) (v % 2 ^ 55 / 2 ^ (h % 64) % 16))) where
  abbrev sum : ℕ
  sum = bit_and l (get_or t (v / 2 ^ 55 % 256 * 4) 0) + get_or t (v / 2 ^ 55 % 256 * 4 + 1) 0 + x

  made : (sum < 2 ^ 32)
      × (lengths_after sum ≡ (length_in v 61 55 (pos (byte0 l))).length
      ∷ (length_in v 59 (left1 v l) (pos (byte1 l))).length
      ∷ (length_in v 57 (left2 v l) (pos (byte2 l))).length
      ∷ (length_in v 55 (left3 v l) (pos (byte3 l))).length
      ∷ [])
  made =
      let a = acting t v table in
      lengths_made v l packed sum (rw (a.kept, a.added, reads_are v l packed _ x a.shifts ex))

  pub sum_fits : sum < 2 ^ 32
  sum_fits = made.0

  pub size_fits : get_or t (v / 2 ^ 55 % 256 * 4 + 3) 0 < 2 ^ 32
  size_fits = rw (acting t v table).size (omega arith)

  pub head_of_made : v < 2 ^ 64 → HeadOf v l (record { up = eqb (v / 2 ^ 63) 1; sums = sum; size = get_or t (v / 2 ^ 55 % 256 * 4 + 3) 0 })
  head_of_made fit =
      let top : v / 2 ^ 63 ≡ v / 2 ^ 63 % 2 = omega arith in
      record { up_is = ap (λ (b : ℕ). eqb b 1) top; lengths_are = made.1; size_is = (acting t v table).size ∙ after4 v l packed }
