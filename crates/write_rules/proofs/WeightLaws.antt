-- A number's weight is below 2^l exactly if l bits hold the number.
use Prim.Native.Nat.{ℕ, zero, suc, ◌+◌, ◌-◌, ◌*◌, ◌%◌, ◌^◌, ◌<◌, ◌≤◌, max}
use mathlib.Core.Bool.{Bool, true, false, cond, ◌&&◌}
use mathlib.Core.Path.{◌≡◌, refl, sym, ap, ◌∙◌}
use mathlib.Core.Logic.{◌≢◌, by_cases}
use mathlib.Core.List.{[], ◌∷◌}
use native.Mathlib.Omega.{arith}
use native.Mathlib.Decide.{dec_lt, ℕ_discrete}
use native.Mathlib.Nat.{mod-eq_of_lt, mod-lt, pow-suc}
use lib.Arith.{digits_mod}
use lib.Dec.{ltb, lit<, lit≤}
use lib.Pow.{pow_pos, pow_mono, pow-add}
use borrow.Author.Tests.{ltb-true, ltb-false, lt-ltb, le-ltb, eq-eqb, ne_eqb}
use Rattle.rules.specs.Reader.{signed, modulo}
use Rattle.write_rules.specs.Writer.{holds, holds_all, smallest}
use Rattle.write_rules.specs.Weight.{weight, Short}
use Rattle.write_rules.proofs.Smallest.{smallest_is, back_low, back_high}
use Rattle.rules.proofs.Tests.{by-test}

-- What n bits read back as, where 2^n is twice P.
abbrev back : ℕ → ℕ → ℕ
back n v = modulo (signed n v)

module _ (n P : ℕ) (power : 2 ^ n ≡ P * 2) (few : n ≤ 32) (most : P ≤ 16_384) where
  short_low : (v : ℕ) → v < P → back n v ≡ v
  short_low v l = back_low n v few (omega (arith, power)) (omega (arith, power)) ∙ omega arith

  short_high : (v : ℕ) → P ≤ v → v < P * 2 → back n v ≡ 65_536 - (P * 2 - v)
  short_high v l k = back_high n v few (omega (arith, power)) (omega (arith, power)) ∙ omega (arith, power)

-- The residual's low bits, where 65,536 is a multiple of their power.
low_bits : (P K d : ℕ) → suc K * (P * 2) ≡ 65_536 → d < 65_536 → 65_536 - d ≤ P → d % (P * 2) ≡ P * 2 - (65_536 - d)
low_bits P K d e l h = ap (λ x. x % (P * 2)) is ∙ digits_mod K {m = P * 2} short
  where
    is : d ≡ K * (P * 2) + (P * 2 - (65_536 - d))
    is = omega arith

    short : P * 2 - (65_536 - d) < P * 2
    short = omega arith

module _ (n P : ℕ) (power : 2 ^ n ≡ P * 2) (few : n ≤ 32) (most : P ≤ 16_384) (K d : ℕ) (e : suc K * (P * 2) ≡ 65_536) (some : 0 < P) (l : d < 65_536) where
  holds_if : weight d < P * 2 → back n (d % (P * 2)) ≡ d
  unfolding weight
  holds_if =
      by-test (ltb d 32_768)
      (λ k. rw k (λ h. let s : d < P = omega arith in let u : d < P * 2 = omega arith in rw (mod-eq_of_lt u) (short_low n P power few most d s)))
      (λ k. rw k (λ h. let b = ltb-false d 32_768 k in
      let s : 65_536 - d ≤ P = omega arith in
      rw (low_bits P K d e l s) (short_high n P power few most (P * 2 - (65_536 - d)) (omega arith) (omega arith) ∙ omega arith)))

  only_if : back n (d % (P * 2)) ≡ d → weight d < P * 2
  unfolding weight
  only_if h =
      by_cases (dec_lt (d % (P * 2)) P)
      (λ q. let r = sym (short_low n P power few most (d % (P * 2)) q) ∙ h in weigh (ltb d 32_768) refl (omega arith))
      (λ q. let r = sym (short_high n P power few most (d % (P * 2)) (omega arith) below) ∙ h in weigh' (ltb d 32_768) refl (omega (arith, below)))
    where
      below : d % (P * 2) < P * 2
      below = let p : 0 < P * 2 = omega arith in mod-lt d p

      weigh : (t : Bool) → ltb d 32_768 ≡ t → (d < P) → cond t (2 * d) (2 * (65_535 - d) + 1) < P * 2
      weigh true k s = omega arith
      weigh false k s = let b = ltb-false d 32_768 k in absurd (omega arith)

      weigh' : (t : Bool) → ltb d 32_768 ≡ t → (65_536 ≤ d + P) → cond t (2 * d) (2 * (65_535 - d) + 1) < P * 2
      weigh' true k s = let b = ltb-true d 32_768 k in absurd (omega arith)
      weigh' false k s = omega arith

weight_some : (d : ℕ) → 0 ≢ d → 1 ≤ weight d
unfolding weight
weight_some d n = by-test (ltb d 32_768) (λ e. rw e (omega arith)) (λ e. rw e (omega arith))

pub holds_weight : (l d : ℕ) → l ≤ 15 → d < 65_536 → holds l d ≡ ltb (weight d) (2 ^ l)
unfolding holds weight
holds_weight zero d h k = let z : d % 1 ≡ 0 = omega arith in rw (z, back_low 0 0 (lit≤ tt) (lit< tt) (lit< tt)) (by_cases (ℕ_discrete 0 d) (λ q. rw (← q)) (λ q. ne_eqb 0 d q ∙ sym (le-ltb (weight d) 1 (weight_some d q))))
holds_weight (suc l) d h k =
    rw (pow-suc 2 l) (by_cases (dec_lt (weight d) (P * 2))
    (λ q. eq-eqb (back (suc l) (d % (P * 2))) d (holds_if (suc l) P (pow-suc 2 l) few most K d e (pow_pos l) k q) ∙ sym (lt-ltb (weight d) (P * 2) q))
    (λ q. ne_eqb (back (suc l) (d % (P * 2))) d (λ r. q (only_if (suc l) P (pow-suc 2 l) few most K d e (pow_pos l) k r)) ∙ sym (le-ltb (weight d) (P * 2) (omega arith))))
  where
    P : ℕ
    P = 2 ^ l

    K : ℕ
    K = 2 ^ (15 - l) - 1

    few : suc l ≤ 32
    few = omega arith

    most : P ≤ 2 ^ 14
    most = let m : l ≤ 14 = omega arith in pow_mono m

    product : 2 ^ (15 - l) * 2 ^ suc l ≡ 65_536
    product = let m : 15 - l + suc l ≡ 16 = omega arith in sym (pow-add 2 (15 - l) (suc l)) ∙ ap (λ n. 2 ^ n) m

    one : suc K ≡ 2 ^ (15 - l)
    one = let p = pow_pos (15 - l) in omega arith

    e : suc K * (P * 2) ≡ 65_536
    e = rw (one, ← pow-suc 2 l) product

-- ── Four numbers ──

-- A test of each of four numbers is one test of the greatest.
four_tests : (x y z u P : ℕ) → (ltb x P && (ltb y P && (ltb z P && (ltb u P && true)))) ≡ ltb (max (max x y) (max z u)) P
four_tests x y z u P =
    by-test (ltb x P)
    (λ e. rw e (by-test (ltb y P)
    (λ f. rw f (by-test (ltb z P)
    (λ g. rw g (by-test (ltb u P)
    (λ h. rw h (sym (lt-ltb m P (omega (arith, ltb-true x P e, ltb-true y P f, ltb-true z P g, ltb-true u P h)))))
    (λ h. rw h (sym (le-ltb m P (omega (arith, ltb-false u P h)))))))
    (λ g. rw g (sym (le-ltb m P (omega (arith, ltb-false z P g)))))))
    (λ f. rw f (sym (le-ltb m P (omega (arith, ltb-false y P f)))))))
    (λ e. rw e (sym (le-ltb m P (omega (arith, ltb-false x P e)))))
  where
    m : ℕ
    m = max (max x y) (max z u)

module _ (a b c d : ℕ) (la : a < 65_536) (lb : b < 65_536) (lc : c < 65_536) (ld : d < 65_536) where
  abbrev pub heaviest : ℕ
  heaviest = max (max (weight a) (weight b)) (max (weight c) (weight d))

  pub four_held : (l : ℕ) → l ≤ 15 → holds_all (a ∷ b ∷ c ∷ d ∷ []) l ≡ ltb heaviest (2 ^ l)
  unfolding holds_all
  four_held l h = rw (holds_weight l a h la, holds_weight l b h lb, holds_weight l c h lc, holds_weight l d h ld) (four_tests (weight a) (weight b) (weight c) (weight d) (2 ^ l))

  -- So the smallest length is how many bits the greatest weight has.
  pub smallest_by_weight : (r : ℕ) → heaviest < 2 ^ 15 → heaviest < 2 ^ r → 2 ^ r ≤ 2 * heaviest + 1 → smallest (a ∷ b ∷ c ∷ d ∷ []) ≡ r
  smallest_by_weight r most above least =
      smallest_is (a ∷ b ∷ c ∷ d ∷ []) r low (four_held r low ∙ lt-ltb heaviest (2 ^ r) above)
      (λ l h. four_held l (omega (arith, low)) ∙ le-ltb heaviest (2 ^ l) (omega (arith, half l h)))
    where
      low : r ≤ 15
      low = by_cases (dec_lt r 16) (λ q. omega arith) (λ q. let q' : 16 ≤ r = omega arith in absurd (omega (arith, pow_mono q')))

      half : (l : ℕ) → l < r → 2 * 2 ^ l ≤ 2 ^ r
      half l h = let k : suc l ≤ r = h in omega (arith, pow_mono k, pow-suc 2 l)

-- A number that 15 bits hold weighs less than 2^15.
pub weight_short : (d : ℕ) → Short d → weight d < 2 ^ 15
unfolding weight
weight_short d s =
    by-test (ltb d 32_768)
    (λ e. rw e (omega (arith, ltb-true d 32_768 e, s.short)))
    (λ e. rw e (omega (arith, ltb-false d 32_768 e, s.below, s.short)))
