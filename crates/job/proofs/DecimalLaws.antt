-- Decimal digits: how a number of at most k digits is written, and how long it is.
use Prim.Native.Nat.{ℕ, zero, suc, ◌+◌, ◌-◌, ◌/◌, ◌%◌, ◌≤◌, ◌<◌}
use mathlib.Core.Path.{◌≡◌}
use mathlib.Core.List.{List, [], ◌∷◌, ◌++◌}
use native.Mathlib.Omega.{arith}
use borrow.Author.Tests.{lt-ltb, le-ltb}
use Rattle.rules.specs.Job.{digits}
use Rattle.job.specs.Written.{Appends, Left}
use Rattle.job.proofs.WrittenLaws.{appends_none, left_start, left_as}

pub digits_one : (k v : ℕ) → 0 < k → v < 10 → digits k v ≡ (48 + v) ∷ []
unfolding digits
digits_one zero v h l = let z : ◌≡◌ {A = ℕ} 0 1 = omega arith in cc
digits_one (suc k) v h l = rw (lt-ltb v 10 l)

pub digits_more : (k v : ℕ) → 0 < k → 10 ≤ v → digits k v ≡ digits (k - 1) (v / 10) ++ ((48 + v % 10) ∷ [])
unfolding digits
digits_more zero v h l = let z : ◌≡◌ {A = ℕ} 0 1 = omega arith in cc
digits_more (suc k) v h l = let e : suc k - 1 ≡ k = omega arith in rw (le-ltb v 10 l, e)

pub no_digits : (t : List ℕ) (n k v : ℕ) → k ≡ 0 → Appends t n (digits k v) t n
unfolding digits
no_digits t n k v e = rw e (appends_none t n)

pub one_digit : (t : List ℕ) (n k v g : ℕ) → 0 < k → v < 10 → g ≡ 48 + v → Left t n (g ∷ []) t n (digits k v)
one_digit t n k v g h l e = left_as (rw e (digits_one k v h l)) (left_start t n (digits k v))

pub more_digits : (t : List ℕ) (n k v g : ℕ) → 0 < k → 10 ≤ v → g ≡ 48 + v % 10
    → Left t n (digits (k - 1) (v / 10) ++ (g ∷ [])) t n (digits k v)
more_digits t n k v g h l e = left_as (rw e (digits_more k v h l)) (left_start t n (digits k v))
