-- The order of the stream: a block's samples come evens first, then odds.
use mathlib.Core.Path.{◌≡◌, refl, ap}
use mathlib.Core.Bool.{Bool, true, ◌&&◌}
use mathlib.Core.List.{List}
use Prim.Native.Nat.{ℕ, zero, suc, ◌+◌, ◌*◌, ◌/◌, ◌%◌, ◌<◌}
use native.Mathlib.Omega.{arith}
use lib.Dec.{eqb}
use lib.IntN.{ℤ, pos}
use lib.ListN.{get_or}
use borrow.Author.Tests.{eqb-true, eqb-false}
use Rattle.rules.specs.V0.{order, length_of}
use Rattle.rules.proofs.Tests.{both, by-test}

-- A test of 0 to n − 1, and what it says of each.
all_below : ℕ → (ℕ → Bool) → Bool
all_below zero f = true
all_below (suc n) f = f n && all_below n f

each_below : (n : ℕ) (f : ℕ → Bool) → all_below n f ≡ true → (k : ℕ) → k < n → f k ≡ true
unfolding all_below
each_below zero f e k h = absurd (omega arith)
each_below (suc n) f e k h =
    let b = both (f n) (all_below n f) e in
    by-test (eqb k n) (λ q. rw (eqb-true k n q) b.0) (λ q. let ne = eqb-false k n q in each_below n f b.1 k (omega arith))

-- Sample k of the stream is column 2 (k mod 8) + k / 8 of its block.
pub order_at : (k : ℕ) → k < 16 → get_or order k 0 ≡ 2 * (k % 8) + k / 8
unfolding all_below
order_at k h = eqb-true (get_or order k 0) (2 * (k % 8) + k / 8) (each_below 16 (λ k. eqb (get_or order k 0) (2 * (k % 8) + k / 8)) refl k h)

pub order_below : (k : ℕ) → k < 16 → get_or order k 0 < 16
order_below k h = omega (arith, order_at k h)

-- Its length is number k / 4.
number_at : (k : ℕ) → k < 16 → 2 * (get_or order k 0 % 2) + get_or order k 0 / 8 ≡ k / 4
unfolding all_below
number_at k h = eqb-true (2 * (get_or order k 0 % 2) + get_or order k 0 / 8) (k / 4) (each_below 16 (λ k. eqb (2 * (get_or order k 0 % 2) + get_or order k 0 / 8) (k / 4)) refl k h)

pub length_at : (ls : List ℤ) (k : ℕ) → k < 16 → length_of ls (get_or order k 0) ≡ get_or ls (k / 4) (pos 0)
unfolding length_of
length_at ls k h = ap (λ j. get_or ls j (pos 0)) (number_at k h)
