-- The number that the low bits of a window are in two's complement, with no test of the sign: half a turn is added and taken off
-- again, in a turn of 2^n.
use mathlib.Core.Path.{◌≡◌, refl, sym, ap, ◌∙◌}
use mathlib.Core.Bool.{true, false}
use mathlib.Core.Logic.{by_cases}
use Prim.Native.Nat.{ℕ, zero, suc, ◌+◌, ◌*◌, ◌-◌, ◌/◌, ◌%◌, ◌^◌, ◌≤◌, ◌<◌}
use native.Mathlib.Nat.{mod-lt, mod-eq_of_lt, mod-add-mod, mul-add-mod_self_right}
use native.Mathlib.Omega.{arith}
use native.Mathlib.Decide.{dec_lt}
use native.Mathlib.Numerals.{add-one}
use lib.Dec.{ltb}
use lib.IntN.{pos, ◌-ℤ◌, +ℤ-neg_ℤ_cancel}
use lib.Pow.{pow_pos, pow_mono, pow-add, mod-mod-pow}
use borrow.Author.Tests.{ltb-true, ltb-false}
use Rattle.rules.specs.Reader.{signed, modulo}
use Rattle.rules.proofs.ReaderLaws.{signed_low, signed_high, minus_more}
use Rattle.rules.proofs.Tests.{by-test}

turned : (n v h : ℕ) → h ≡ 2 ^ n / 2 → v < 2 ^ n → pos ((v + h) % 2 ^ n) -ℤ pos h ≡ signed n v
turned zero v h eh l =
    let z : v ≡ 0 = omega arith in
    let y : h ≡ 0 = eh in
    let l : 0 * 2 < 2 ^ 0 = omega arith in
    rw (z, y, signed_low 0 0 l)
turned (suc m) v h eh l = by-test (ltb (v * 2) (2 ^ suc m)) below above
  where
    double : 2 ^ suc m ≡ 2 ^ m * 2
    double = ap (λ (x : ℕ). 2 ^ x) (sym (add-one m)) ∙ pow-add 2 m 1

    half : h * 2 ≡ 2 ^ suc m
    half = omega (arith, double, eh)

    below : ltb (v * 2) (2 ^ suc m) ≡ true → pos ((v + h) % 2 ^ suc m) -ℤ pos h ≡ signed (suc m) v
    below e =
        let q : v * 2 < 2 ^ suc m = ltb-true (v * 2) (2 ^ suc m) e in
        let u : v + h < 2 ^ suc m = omega (arith, half) in
        rw (mod-eq_of_lt u, signed_low (suc m) v q) (+ℤ-neg_ℤ_cancel (pos v) (pos h))

    above : ltb (v * 2) (2 ^ suc m) ≡ false → pos ((v + h) % 2 ^ suc m) -ℤ pos h ≡ signed (suc m) v
    above e =
        let q : 2 ^ suc m ≤ v * 2 = ltb-false (v * 2) (2 ^ suc m) e in
        let s : v + h ≡ 1 * 2 ^ suc m + (v - h) = omega (arith, half) in
        let u : v - h < 2 ^ suc m = omega (arith, half) in
        let w : (v + h) % 2 ^ suc m ≡ v - h
        = ap (λ (x : ℕ). x % 2 ^ suc m) s ∙ mul-add-mod_self_right 1 (2 ^ suc m) (v - h) ∙ mod-eq_of_lt u in
        let t : h - suc (v - h) ≡ 2 ^ suc m - suc v = omega (arith, half) in
        rw (w, signed_high (suc m) v q l, minus_more (v - h) h (omega (arith, half)), t)

-- What is made of the low n bits of x, m at most, with p = 2^n and the sum w, which may have lost what 64 bits don't hold.
pub record Low (m x n p w : ℕ) : Type 0 where
  pub some : 0 < p
  pub most : p ≤ 2 ^ m
  pub below : w % p < p
  pub is : pos (w % p) -ℤ pos (p / 2) ≡ signed n (x % 2 ^ n)

pub low_made : (m x n p w : ℕ) → m ≤ 32 → n ≤ m → p ≡ 2 ^ n → w ≡ (x + p / 2) % 2 ^ 64 → Low m x n p w
low_made m x n p w few l ep ew =
    let h : ℕ = 2 ^ n / 2 in
    let e : 64 ≡ 64 - n + n = omega arith in
    let a : (x + h) % 2 ^ 64 % 2 ^ n ≡ (x + h) % 2 ^ n = ap (λ (y : ℕ). (x + h) % 2 ^ y % 2 ^ n) e ∙ mod-mod-pow (x + h) (64 - n) n in
    let is : pos ((x + h) % 2 ^ 64 % 2 ^ n) -ℤ pos h ≡ signed n (x % 2 ^ n)
    = rw (a, ← mod-add-mod x (2 ^ n) h) (turned n (x % 2 ^ n) h refl (mod-lt x (pow_pos n))) in
    rw (ew, ep) (record { some = pow_pos n; most = pow_mono l; below = mod-lt _ (pow_pos n); is = is })

-- A difference modulo 65,536.
pub modulo_minus : (a h : ℕ) → h ≤ 4_294_967_296 → modulo (pos a -ℤ pos h) ≡ (a + 4_294_967_296 - h) % 65_536
unfolding modulo
modulo_minus a h l =
    by_cases (dec_lt a h)
    (λ q. rw (minus_more a h q) (omega arith))
    (λ q. let e : a ≡ a - h + h = omega arith in
    let z : pos a -ℤ pos h ≡ pos (a - h) = ap (λ y. pos y -ℤ pos h) e ∙ +ℤ-neg_ℤ_cancel (pos (a - h)) (pos h) in
    rw z (omega arith))
