-- The smallest length of 0 to 15: it is below 16, no smaller one holds the four numbers, and it holds them if they lie in −16,384
-- to 16,383.
use Prim.Native.Nat.{ℕ, zero, suc, ◌+◌, ◌-◌, ◌*◌, ◌%◌, ◌^◌, ◌<◌, ◌≤◌}
use mathlib.Core.Bool.{Bool, true, false}
use mathlib.Core.Path.{◌≡◌, refl, sym, ap, ◌∙◌}
use mathlib.Core.List.{List, [], ◌∷◌}
use native.Mathlib.Omega.{arith}
use native.Mathlib.Decide.{dec_lt}
use lib.Dec.{ltb, lit≤}
use borrow.Author.Tests.{ltb-true, ltb-false, eq-eqb}
use Rattle.rules.specs.Reader.{signed, modulo}
use Rattle.rules.proofs.Cells.{All, nil, more}
use Rattle.rules.proofs.Tests.{clash, by-test}
use Rattle.rules.proofs.ReaderLaws.{sign_low, sign_high, residual_is}
use Rattle.write_rules.specs.Writer.{holds, holds_all, first_from, smallest}
use Rattle.write_rules.specs.Weight.{Short}
use mathlib.Core.Logic.{by_cases}

-- ── The smallest length ──

first_most : (p : ℕ → Bool) (n l : ℕ) → first_from p n l ≤ l + n
unfolding first_from
first_most p zero l = omega arith
first_most p (suc n) l = by-test (p l) (λ k. rw k (omega arith)) (λ k. rw k (omega (arith, first_most p n (suc l))))

-- The number found passes, if the last one does.
first_passes : (p : ℕ → Bool) (n l : ℕ) → p (l + n) ≡ true → p (first_from p n l) ≡ true
unfolding first_from
first_passes p zero l e = let q : l + 0 ≡ l = omega arith in rw q at e
first_passes p (suc n) l e =
    by-test (p l) (λ k. rw k k) (λ k. rw k (first_passes p n (suc l) (let q : l + suc n ≡ suc l + n = omega arith in rw q at e)))

-- No number before it does.
first_least : (p : ℕ → Bool) (n l j : ℕ) → l ≤ j → j < first_from p n l → p j ≡ false
unfolding first_from
first_least p zero l j a b = absurd (omega arith)
first_least p (suc n) l j a b =
    by-test (p l)
    (λ k. let h = rw k at b in absurd (omega arith))
    (λ k. by_cases (dec_lt l j) (λ q. first_least p n (suc l) j q (rw k at b)) (λ q. let e : j ≡ l = omega arith in rw e k))

-- The first number that passes is the one found.
first_is : (p : ℕ → Bool) (n l r : ℕ) → l ≤ r → r ≤ l + n → p r ≡ true → ((j : ℕ) → l ≤ j → j < r → p j ≡ false) → first_from p n l ≡ r
unfolding first_from
first_is p zero l r a b e none = omega arith
first_is p (suc n) l r a b e none =
    by-test (p l)
    (λ k. rw k (by_cases (dec_lt l r) (λ q. absurd (clash k (none l (omega arith) q))) (λ q. omega arith)))
    (λ k. rw k (by_cases (dec_lt l r)
    (λ q. first_is p n (suc l) r q (omega arith) e (λ j i m. none j (omega arith) m))
    (λ q. let i : r ≡ l = omega arith in absurd (clash (rw i at e) k))))

-- A length of 0 to 15 that holds the numbers, where no smaller one does, is the smallest.
pub smallest_is : (ds : List ℕ) (r : ℕ) → r ≤ 15 → holds_all ds r ≡ true → ((l : ℕ) → l < r → holds_all ds l ≡ false) → smallest ds ≡ r
unfolding smallest
smallest_is ds r m e none = first_is (holds_all ds) 15 0 r (omega arith) (omega arith) e (λ j i k. none j k)

pub smallest_most : (ds : List ℕ) → smallest ds < 16
unfolding smallest
smallest_most ds = let h = first_most (holds_all ds) 15 0 in omega arith

-- Any smaller length leaves one of the residuals out.
pub smallest_least : (ds : List ℕ) (l : ℕ) → l < smallest ds → holds_all ds l ≡ false
unfolding smallest
smallest_least ds l h = first_least (holds_all ds) 15 0 l (omega arith) h

-- What l bits read back as: the number they are, or less 2^l if the highest is set.
pub back_low : (l v : ℕ) → l ≤ 32 → v < 2 ^ l → v * 2 < 2 ^ l → modulo (signed l v) ≡ v % 65_536
back_low l v m fit h = sym (residual_is l v fit m) ∙ (rw (sign_low l v fit h) (omega arith))

pub back_high : (l v : ℕ) → l ≤ 32 → v < 2 ^ l → 2 ^ l ≤ v * 2 → modulo (signed l v) ≡ (2 ^ 32 + v - 2 ^ l) % 65_536
back_high l v m fit h = sym (residual_is l v fit m) ∙ ap (λ x. (2 ^ 32 + v - x) % 65_536) (sign_high l v fit h)

holds_fifteen : (d : ℕ) → Short d → holds 15 d ≡ true
unfolding holds
holds_fifteen d k = eq-eqb (modulo (signed 15 (d % 32_768))) d (by-test (ltb (d % 32_768 * 2) 32_768)
    (λ e. back_low 15 (d % 32_768) (lit≤ tt) fit (ltb-true (d % 32_768 * 2) 32_768 e) ∙ omega (arith, k.below, k.short, ltb-true (d % 32_768 * 2) 32_768 e))
    (λ e. back_high 15 (d % 32_768) (lit≤ tt) fit (ltb-false (d % 32_768 * 2) 32_768 e) ∙ omega (arith, k.below, k.short, ltb-false (d % 32_768 * 2) 32_768 e)))
  where
    fit : d % 32_768 < 32_768
    fit = omega arith

all_fifteen : (ds : List ℕ) → All Short ds → holds_all ds 15 ≡ true
unfolding holds_all
all_fifteen [] nil = refl
all_fifteen (d ∷ ds) (more k ks) = rw (holds_fifteen d k, all_fifteen ds ks)

holds_each : (ds : List ℕ) (l : ℕ) → holds_all ds l ≡ true → All (λ d. holds l d ≡ true) ds
unfolding holds_all
holds_each [] l e = nil
holds_each (d ∷ ds) l e =
    by-test (holds l d) (λ k. more k ((holds_each ds l (rw k at e)))) (λ k. let z : ◌≡◌ {A = ℕ} 0 1 = cc in absurd (omega arith))

pub smallest_holds : (ds : List ℕ) → All Short ds → All (λ d. holds (smallest ds) d ≡ true) ds
unfolding smallest
smallest_holds ds k = holds_each ds (smallest ds) (first_passes (holds_all ds) 15 0 (all_fifteen ds k))

-- What a property of four says of each.
pub record Four (P : ℕ → Type 0) (a b c d : ℕ) : Type 0 where
  pub first : P a
  pub second : P b
  pub third : P c
  pub fourth : P d

four : (P : ℕ → Type 0) {a b c d : ℕ} → All P (a ∷ b ∷ c ∷ d ∷ []) → Four P a b c d
four P (more p (more q (more r (more s nil)))) = record { first = p; second = q; third = r; fourth = s }

module _ (d : ℕ → ℕ) (short : (c : ℕ) → Short (d c)) where
  pub held_by : (a b c e : ℕ) → Four (λ x. holds (smallest (d a ∷ d b ∷ d c ∷ d e ∷ [])) x ≡ true) (d a) (d b) (d c) (d e)
  held_by a b c e =
      four (λ x. holds (smallest (d a ∷ d b ∷ d c ∷ d e ∷ [])) x ≡ true)
      (smallest_holds (d a ∷ d b ∷ d c ∷ d e ∷ []) (more (short a) (more (short b) (more (short c) (more (short e) nil)))))
