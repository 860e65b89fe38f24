-- Lanes are moved, masked and filled all at once.
use Rattle.std.proofs.Common.{◌≡◌, ℕ, zero, suc, ◌+◌, ◌-◌, ◌*◌, ◌/◌, ◌%◌, ◌^◌, ◌<◌, ◌≤◌, true, false, ltb, List, sym, refl, ap, ◌∙◌, ap₂, mod-lt, mod-eq_of_lt, add-mul, add-sub_of_le, one-mul, pow-suc, div-add-mod', mul-add, mul_right_comm, mul-div_cancel, arith, pow_pos, pow_mono, pow-add, shr-shr, shr_lt, ltb-false, ltb-true}
use native.Mathlib.Nat.{mul-sub, div-eq_of_lt, div-eq_of_lt-le}
use lib.Bits.{bit_and, and_block, and_mask, and_high}
use lib.Pow.{split, field, mod-pow-add, mod-mod-pow, shr_mod, ones_lt}
use Rattle.rules.specs.Reader.{signed, modulo}
use Rattle.rules.proofs.ReaderLaws.{signed_low, signed_high, modulo_below}
use Rattle.rules.proofs.Tests.{by-test}
use Rattle.read_window.specs.Window.{Window}
use Rattle.read_window.proofs.WindowLaws.{four_made}
use Rattle.v0_parse_window.specs.ByWindow.{residual, Group}
use Rattle.v0_lanes.specs.Lanes.{lanes, lanes_of, residual_lanes, LanesBelow}

-- ── Lanes of any width ──

-- What stands above s is moved up to w.
pub moved_up : (h s l w : ℕ) → s ≤ w → h * s + l + h * (w - s) ≡ h * w + l
moved_up h s l w fit =
    let e : h * s + h * (w - s) ≡ h * w = sym (mul-add h s (w - s)) ∙ ap (λ (x : ℕ). h * x) (add-sub_of_le fit) in
    omega arith

-- A mask of lanes masks each.
pub and_lanes : (k a b c d p q r s : ℕ) → b < 2 ^ k → c < 2 ^ k → d < 2 ^ k → q < 2 ^ k → r < 2 ^ k → s < 2 ^ k
    → bit_and (lanes k a b c d) (lanes k p q r s) ≡ lanes k (bit_and a p) (bit_and b q) (bit_and c r) (bit_and d s)
and_lanes k a b c d p q r s hb hc hd hq hr hs =
    and_block k _ _ d s hd hs
    ∙ ap (λ (x : ℕ). x * 2 ^ k + bit_and d s) (and_block k _ _ c r hc hr ∙ ap (λ (x : ℕ). x * 2 ^ k + bit_and c r) (and_block k a p b q hb hq))

-- A product of lanes is one of each.
pub lanes_times : (k a b c d f : ℕ) → lanes k a b c d * f ≡ lanes k (a * f) (b * f) (c * f) (d * f)
lanes_times k a b c d f = one _ d ∙ ap (λ (x : ℕ). x * 2 ^ k + d * f) (one _ c ∙ ap (λ (x : ℕ). x * 2 ^ k + c * f) (one a b))
  where
    one : (x y : ℕ) → (x * 2 ^ k + y) * f ≡ x * f * 2 ^ k + y * f
    one x y = add-mul (x * 2 ^ k) y f ∙ ap (λ (z : ℕ). z + y * f) (mul_right_comm x (2 ^ k) f)

-- ── Four fields to four lanes ──

-- The upper two of four fields of n bits, moved up to 32 bits.
module _ (d n whole gap : ℕ) (few : n < 16) (ew : whole ≡ 2 ^ (4 * n) - 1) (eg : gap ≡ 2 ^ 32 - 2 ^ (2 * n)) where
  pub halved_is : bit_and d whole + bit_and d whole / 2 ^ (2 * n) * gap ≡ d / 2 ^ (2 * n) % 2 ^ (2 * n) * 2 ^ 32 + d % 2 ^ (2 * n)
  halved_is =
      let two : 4 * n ≡ 2 * n + 2 * n = omega arith in
      let x : bit_and d whole ≡ d % 2 ^ (2 * n + 2 * n) = ap (bit_and d) ew ∙ and_mask d (4 * n) ∙ ap (λ (m : ℕ). d % 2 ^ m) two in
      rw (x, eg, field d (2 * n) (2 * n), mod-pow-add d (2 * n) (2 * n))
      (moved_up (d / 2 ^ (2 * n) % 2 ^ (2 * n)) (2 ^ (2 * n)) (d % 2 ^ (2 * n)) (2 ^ 32) (pow_mono {j = 32} (omega arith)))

  pub halved_fits : bit_and d whole + bit_and d whole / 2 ^ (2 * n) * gap < 2 ^ 64
  halved_fits =
      let room : 2 ^ (2 * n) ≤ 2 ^ 30 = pow_mono {j = 30} (omega arith) in
      rw halved_is (omega (arith, mod-lt (d / 2 ^ (2 * n)) (pow_pos (2 * n)), mod-lt d (pow_pos (2 * n))))

-- Two halves of 32 bits, each of two fields of n bits, as four lanes of 16.
module _ (y n mask gap : ℕ) (few : n < 16) (high : y / 2 ^ 32 < 2 ^ (2 * n)) (low : y % 2 ^ 32 < 2 ^ (2 * n))
    (em : mask ≡ (2 ^ n - 1) * 2 ^ 32 + (2 ^ n - 1)) (eg : gap ≡ 2 ^ 16 - 2 ^ n) where
  masked : bit_and (y / 2 ^ n) ((2 ^ n - 1) * 2 ^ 32 + (2 ^ n - 1)) ≡ y / 2 ^ 32 / 2 ^ n * 2 ^ 32 + y % 2 ^ 32 / 2 ^ n
  masked =
      let two : 2 * n ≡ n + n = omega arith in
      let more : 32 ≡ 32 - n + n = omega arith in
      let most : 32 ≡ 32 - (n + n) + (n + n) = omega arith in
      let room : 2 ^ n ≤ 2 ^ 32 = pow_mono {j = 32} (omega arith) in
      let above : y / 2 ^ n / 2 ^ 32 ≡ y / 2 ^ 32 / 2 ^ n
      = shr-shr y n 32 ∙ ap (λ (m : ℕ). y / 2 ^ m) (omega arith) ∙ sym (shr-shr y 32 n) in
      let below : y / 2 ^ n % 2 ^ 32 % 2 ^ n ≡ y % 2 ^ 32 / 2 ^ n
      = ap (λ (m : ℕ). y / 2 ^ n % 2 ^ m % 2 ^ n) more ∙ mod-mod-pow (y / 2 ^ n) (32 - n) n ∙ sym (field y n n)
      ∙ ap (λ (x : ℕ). x / 2 ^ n) (sym (mod-mod-pow y (32 - (n + n)) (n + n)) ∙ ap (λ (m : ℕ). y % 2 ^ m % 2 ^ (n + n)) (sym most) ∙ mod-eq_of_lt (rw two at low)) in
      ap (λ (x : ℕ). bit_and x ((2 ^ n - 1) * 2 ^ 32 + (2 ^ n - 1))) (sym (split (y / 2 ^ n) 32))
      ∙ and_block 32 (y / 2 ^ n / 2 ^ 32) (2 ^ n - 1) (y / 2 ^ n % 2 ^ 32) (2 ^ n - 1) (mod-lt (y / 2 ^ n) (pow_pos 32)) (omega (arith, ones_lt n))
      ∙ ap₂ (λ (a b : ℕ). a * 2 ^ 32 + b) (and_mask (y / 2 ^ n / 2 ^ 32) n ∙ ap (λ (x : ℕ). x % 2 ^ n) above ∙ shr_mod n n (rw two at high)) (and_mask (y / 2 ^ n % 2 ^ 32) n ∙ below)

  pub quartered_is : y + bit_and (y / 2 ^ n) mask * gap
      ≡ lanes 16 (y / 2 ^ 32 / 2 ^ n) (y / 2 ^ 32 % 2 ^ n) (y % 2 ^ 32 / 2 ^ n) (y % 2 ^ 32 % 2 ^ n)
  quartered_is =
      let a : ℕ = y / 2 ^ 32 / 2 ^ n in
      let b : ℕ = y / 2 ^ 32 % 2 ^ n in
      let c : ℕ = y % 2 ^ 32 / 2 ^ n in
      let e : ℕ = y % 2 ^ 32 % 2 ^ n in
      let parts : y ≡ (a * 2 ^ 32 + c) * 2 ^ n + (b * 2 ^ 32 + e)
      = omega (arith, div-add-mod' (y / 2 ^ 32) (2 ^ n), div-add-mod' (y % 2 ^ 32) (2 ^ n), add-mul (a * 2 ^ 32) c (2 ^ n), mul_right_comm a (2 ^ 32) (2 ^ n)) in
      let moved : (a * 2 ^ 32 + c) * 2 ^ n + (b * 2 ^ 32 + e) + (a * 2 ^ 32 + c) * (2 ^ 16 - 2 ^ n) ≡ (a * 2 ^ 32 + c) * 2 ^ 16 + (b * 2 ^ 32 + e)
      = moved_up (a * 2 ^ 32 + c) (2 ^ n) (b * 2 ^ 32 + e) (2 ^ 16) (pow_mono {j = 16} (omega arith)) in
      rw (em, eg) (ap (λ (x : ℕ). y + x * (2 ^ 16 - 2 ^ n)) masked ∙ ap (λ (x : ℕ). x + (a * 2 ^ 32 + c) * (2 ^ 16 - 2 ^ n)) parts ∙ moved ∙ omega arith)

  pub quartered_fits : y + bit_and (y / 2 ^ n) mask * gap < 2 ^ 64
  quartered_fits =
      let two : 2 * n ≡ n + n = omega arith in
      let room : 2 ^ n ≤ 2 ^ 15 = pow_mono {j = 15} (omega arith) in
      rw quartered_is (omega (arith, shr_lt n n (rw two at high), mod-lt (y / 2 ^ 32) (pow_pos n), shr_lt n n (rw two at low), mod-lt (y % 2 ^ 32) (pow_pos n)))

-- ── The signs of four lanes ──

-- A field v of n bits in a lane of 16: its highest bit, times what makes all bits above it, is added.
pub filled_is : (n v : ℕ) → n < 16 → v < 2 ^ n → v + bit_and v (2 ^ n / 2) * (131_072 / 2 ^ n - 2) ≡ residual n v
unfolding modulo
filled_is zero v few fit =
    let z : v ≡ 0 = omega arith in
    let l : 0 * 2 < 2 ^ 0 = omega arith in
    rw (z, signed_low 0 0 l)
filled_is (suc m) v few fit = by-test (ltb (v * 2) (2 ^ suc m)) below above
  where
    double : 2 ^ suc m ≡ 2 ^ m * 2
    double = pow-suc 2 m

    half : 2 ^ suc m / 2 ≡ 2 ^ m
    half = omega (arith, double)

    mask : 2 ^ (1 + m) - 2 ^ m ≡ 2 ^ m
    mask = omega (arith, pow-add 2 1 m)

    bit : bit_and v (2 ^ suc m / 2) ≡ v / 2 ^ m % 2 * 2 ^ m
    bit = ap (bit_and v) (half ∙ sym mask) ∙ and_high v 1 m

    whole : 2 ^ (16 - m) * 2 ^ suc m ≡ 131_072
    whole = let e : 16 - m + suc m ≡ 17 = omega arith in sym (pow-add 2 (16 - m) (suc m)) ∙ ap (λ (x : ℕ). 2 ^ x) e

    fill : 131_072 / 2 ^ suc m ≡ 2 ^ (16 - m)
    fill = ap (λ (x : ℕ). x / 2 ^ suc m) (sym whole) ∙ mul-div_cancel (2 ^ (16 - m)) (pow_pos (suc m))

    above_bit : 2 ^ m * (2 ^ (16 - m) - 2) ≡ 65_536 - 2 ^ suc m
    above_bit =
        let sum : m + (16 - m) ≡ 16 = omega arith in
        let e : 2 ^ m * 2 ^ (16 - m) ≡ 65_536 = sym (pow-add 2 m (16 - m)) ∙ ap (λ (x : ℕ). 2 ^ x) sum in
        mul-sub (2 ^ m) (2 ^ (16 - m)) 2 ∙ rw (e, ← double)

    below : ltb (v * 2) (2 ^ suc m) ≡ true → v + bit_and v (2 ^ suc m / 2) * (131_072 / 2 ^ suc m - 2) ≡ residual (suc m) v
    below t =
        let q : v * 2 < 2 ^ suc m = ltb-true (v * 2) (2 ^ suc m) t in
        let none : v / 2 ^ m ≡ 0 = div-eq_of_lt (omega (arith, double)) in
        let room : 2 ^ suc m ≤ 2 ^ 16 = pow_mono {j = 16} (omega arith) in
        rw (bit, none, signed_low (suc m) v q) (omega arith)

    above : ltb (v * 2) (2 ^ suc m) ≡ false → v + bit_and v (2 ^ suc m / 2) * (131_072 / 2 ^ suc m - 2) ≡ residual (suc m) v
    above t =
        let q : 2 ^ suc m ≤ v * 2 = ltb-false (v * 2) (2 ^ suc m) t in
        let one : v / 2 ^ m ≡ 1 = div-eq_of_lt-le (2 ^ m) (omega (arith, double)) (omega (arith, double)) in
        let room : 2 ^ suc m ≤ 2 ^ 16 = pow_mono {j = 16} (omega arith) in
        let product : 1 % 2 * 2 ^ m * (2 ^ (16 - m) - 2) ≡ 65_536 - 2 ^ suc m = rw one-mul above_bit in
        rw (bit, one, fill, product, signed_high (suc m) v q fit) (omega arith)

-- All four.
module _ (z n signs fill : ℕ) (few : n < 16) (each : LanesBelow (2 ^ n) z) (es : signs ≡ 2 ^ n / 2 * 281_479_271_743_489)
    (ef : fill ≡ 131_072 / 2 ^ n - 2) where
  pub signed_lanes_is : z + bit_and z signs * fill
      ≡ lanes 16 (residual n (z / 2 ^ 48)) (residual n (z / 2 ^ 32 % 2 ^ 16)) (residual n (z / 2 ^ 16 % 2 ^ 16)) (residual n (z % 2 ^ 16))
  signed_lanes_is =
      let h : ℕ = 2 ^ n / 2 in
      let f : ℕ = 131_072 / 2 ^ n - 2 in
      let a : ℕ = z / 2 ^ 48 in
      let b : ℕ = z / 2 ^ 32 % 2 ^ 16 in
      let c : ℕ = z / 2 ^ 16 % 2 ^ 16 in
      let d : ℕ = z % 2 ^ 16 in
      let room : 2 ^ n ≤ 2 ^ 15 = pow_mono {j = 15} (omega arith) in
      let small : h < 2 ^ 16 = omega arith in
      let parts : z ≡ lanes 16 a b c d = omega arith in
      let each-sign : signs ≡ lanes 16 h h h h = omega arith in
      let masked : bit_and z signs ≡ lanes 16 (bit_and a h) (bit_and b h) (bit_and c h) (bit_and d h)
      = ap₂ bit_and parts each-sign ∙ and_lanes 16 a b c d h h h h (omega arith) (omega arith) (omega arith) small small small in
      let fa = filled_is n a few each.first in
      let fb = filled_is n b few each.second in
      let fc = filled_is n c few each.third in
      let fd = filled_is n d few each.fourth in
      ap₂ (λ (x y : ℕ). z + x * y) masked ef ∙ ap (λ (x : ℕ). z + x) (lanes_times 16 (bit_and a h) (bit_and b h) (bit_and c h) (bit_and d h) f) ∙ omega (arith, parts, fa, fb, fc, fd)

  pub signed_lanes_fits : z + bit_and z signs * fill < 2 ^ 64
  signed_lanes_fits =
      let below : (v : ℕ) → residual n v < 65_536 = λ v. modulo_below (signed n v) in
      rw signed_lanes_is (omega (arith, below (z / 2 ^ 48), below (z / 2 ^ 32 % 2 ^ 16), below (z / 2 ^ 16 % 2 ^ 16), below (z % 2 ^ 16)))

-- ── All steps ──

-- The fields of d, by halves.
module _ (d n : ℕ) where
  upper : d / 2 ^ (2 * n) % 2 ^ (2 * n) / 2 ^ n ≡ d / 2 ^ n / 2 ^ n / 2 ^ n % 2 ^ n
  upper =
      let two : 2 * n ≡ n + n = omega arith in
      rw (two, ← shr-shr d n n) (field (d / 2 ^ n / 2 ^ n) n n)

  lower : d / 2 ^ (2 * n) % 2 ^ (2 * n) % 2 ^ n ≡ d / 2 ^ n / 2 ^ n % 2 ^ n
  lower =
      let two : 2 * n ≡ n + n = omega arith in
      rw (two, ← shr-shr d n n) (mod-mod-pow (d / 2 ^ n / 2 ^ n) n n)

  upper_last : d % 2 ^ (2 * n) / 2 ^ n ≡ d / 2 ^ n % 2 ^ n
  upper_last =
      let two : 2 * n ≡ n + n = omega arith in
      rw two (field d n n)

  lower_last : d % 2 ^ (2 * n) % 2 ^ n ≡ d % 2 ^ n
  lower_last =
      let two : 2 * n ≡ n + n = omega arith in
      rw two (mod-mod-pow d n n)

-- Two halves of fewer than 2^32 each.
pub record Halves (d n y : ℕ) : Type 0 where
  pub high : y / 2 ^ 32 ≡ d / 2 ^ (2 * n) % 2 ^ (2 * n)
  pub low : y % 2 ^ 32 ≡ d % 2 ^ (2 * n)
  pub high_fits : y / 2 ^ 32 < 2 ^ (2 * n)
  pub low_fits : y % 2 ^ 32 < 2 ^ (2 * n)

pub halves : (d n y : ℕ) → n < 16 → y ≡ d / 2 ^ (2 * n) % 2 ^ (2 * n) * 2 ^ 32 + d % 2 ^ (2 * n) → Halves d n y
halves d n y few e =
    let room : 2 ^ (2 * n) ≤ 2 ^ 30 = pow_mono {j = 30} (omega arith) in
    let below = mod-lt (d / 2 ^ (2 * n)) (pow_pos (2 * n)) in
    let last = mod-lt d (pow_pos (2 * n)) in
    record { high = omega arith; low = omega arith; high_fits = omega arith; low_fits = omega arith }

-- Each lane out of four.
pub record Lanes (z a b c d : ℕ) : Type 0 where
  pub first : z / 2 ^ 48 ≡ a
  pub second : z / 2 ^ 32 % 2 ^ 16 ≡ b
  pub third : z / 2 ^ 16 % 2 ^ 16 ≡ c
  pub fourth : z % 2 ^ 16 ≡ d

pub lanes_are : (z a b c d : ℕ) → b < 2 ^ 16 → c < 2 ^ 16 → d < 2 ^ 16 → z ≡ lanes 16 a b c d → Lanes z a b c d
lanes_are z a b c d hb hc hd e = record { first = omega arith; second = omega arith; third = omega arith; fourth = omega arith }

module _ (d n y z : ℕ) (few : n < 16) (h : Halves d n y)
    (ez : z ≡ lanes 16 (y / 2 ^ 32 / 2 ^ n) (y / 2 ^ 32 % 2 ^ n) (y % 2 ^ 32 / 2 ^ n) (y % 2 ^ 32 % 2 ^ n)) where
  below : (v : ℕ) → v % 2 ^ n < 2 ^ 16
  below v = let room : 2 ^ n ≤ 2 ^ 16 = pow_mono {j = 16} (omega arith) in omega (arith, mod-lt v (pow_pos n))

  are : Lanes z (d / 2 ^ n / 2 ^ n / 2 ^ n % 2 ^ n) (d / 2 ^ n / 2 ^ n % 2 ^ n) (d / 2 ^ n % 2 ^ n) (d % 2 ^ n)
  are =
      lanes_are z _ _ _ _ (below (d / 2 ^ n / 2 ^ n)) (below (d / 2 ^ n)) (below d)
      (ez ∙ rw (h.high, h.low, upper d n, lower d n, upper_last d n, lower_last d n))

  pub fields_below : LanesBelow (2 ^ n) z
  fields_below =
      record {
        first = rw are.first (mod-lt _ (pow_pos n));
        second = rw are.second (mod-lt _ (pow_pos n));
        third = rw are.third (mod-lt _ (pow_pos n));
        fourth = rw are.fourth (mod-lt _ (pow_pos n));
      }

  pub residual_lanes_made : (r : ℕ) → r ≡ lanes 16 (residual n (z / 2 ^ 48)) (residual n (z / 2 ^ 32 % 2 ^ 16)) (residual n (z / 2 ^ 16 % 2 ^ 16)) (residual n (z % 2 ^ 16))
      → r ≡ residual_lanes n d
  unfolding residual_lanes
  residual_lanes_made r er = er ∙ rw (are.first, are.second, are.third, are.fourth)

-- ── By position ──

-- Four lanes of the fields that a window ends with are the group that ends there.
pub group_made : (s : List ℕ) (base e n v r : ℕ) → n < 16 → 64 + 4 * n ≤ e → Window s base (e - 64) v → r ≡ residual_lanes n v → Group s base (e - 4 * n) n (lanes_of r)
unfolding residual_lanes
group_made s base e n v r few late w er =
    let start : e - 64 ≡ e - 4 * n + 4 * n - 64 = omega arith in
    let below : (x : ℕ) → residual n x < 65_536 = λ x. modulo_below (signed n x) in
    let each = lanes_are r _ _ _ _ (below (v / 2 ^ n / 2 ^ n % 2 ^ n)) (below (v / 2 ^ n % 2 ^ n)) (below (v % 2 ^ n)) er in
    four_made (residual n) s base (e - 4 * n) n v (2 ^ n) (2 ^ n) (2 ^ n) (omega arith) (omega arith) (rw start at w) refl refl refl each.first each.second each.third each.fourth
