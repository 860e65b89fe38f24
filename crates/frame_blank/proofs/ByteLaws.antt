-- What bytes say, one by one and as a list.
use Rattle.std.specs.Int.{from_bool}
use mathlib.Core.Path.{◌≡◌, refl, ap, ap₂, ◌∙◌}
use mathlib.Core.Bool.{Bool, true, false, ◌||◌, ◌&&◌, not}
use mathlib.Core.List.{List, [], ◌∷◌, ◌++◌}
use Prim.Native.Nat.{ℕ, zero, suc, ◌+◌, ◌≤◌}
use native.Mathlib.Omega.{arith}
use lib.Dec.{ltb}
use lib.ListN.{length, get_or}
use borrow.Author.Tests.{lt-ltb, le-ltb, ltb-false}
use Rattle.frame_map.specs.Greatest.{greatest}
use Rattle.frame_map.proofs.GreatestLaws.{above_either}
use Rattle.frame_blank.specs.Blanking.{marked, strange, bad_map, bit, count}

-- ── A byte ──

pub zero_unmarked : (b : ℕ) → b ≡ 0 → marked b ≡ false
unfolding marked
zero_unmarked b e = le-ltb 0 b (omega arith)

pub other_marked : (b : ℕ) → (b ≡ 0 → ⊥) → marked b ≡ true
unfolding marked
other_marked zero n = absurd (n refl)
other_marked (suc b) n = lt-ltb 0 (suc b) (omega arith)

-- A byte that doesn't mark is 0.
pub unmarked_zero : (b : ℕ) → marked b ≡ false → b ≡ 0
unfolding marked
unmarked_zero b e = let k = ltb-false 0 b e in omega arith

-- A test as a number.
pub bit_is : (t : Bool) → from_bool t ≡ bit t
unfolding bit
bit_is true = refl
bit_is false = refl

pub bit_most : (t : Bool) → bit t ≤ 1
unfolding bit
bit_most true = omega arith
bit_most false = omega arith

-- A bit is the test again.
pub bit_set : (t : Bool) → ltb 0 (bit t) ≡ t
unfolding bit
bit_set true = refl
bit_set false = refl

-- A run starts where the mark before is less.
pub start_is : (before : ℕ) (t : Bool) → bit (ltb before (bit t)) ≡ bit (t && not (ltb 0 before))
unfolding bit
start_is zero true = refl
start_is (suc k) true = rw (le-ltb (suc k) 1 (omega arith), lt-ltb 0 (suc k) (omega arith))
start_is before false = rw (le-ltb before 0 (omega arith))

-- ── The greatest byte ──

-- 14 is a matter of the greatest.
pub bad_is : (m : List ℕ) → ltb 3 (greatest m) ≡ bad_map m
unfolding bad_map strange greatest
bad_is [] = refl
bad_is (b ∷ m) = above_either 3 b (greatest m) ∙ ap (λ t. ltb 3 b || t) (bad_is m)

-- Where the greatest is 0 every byte is.
pub none_marked : (m : List ℕ) → greatest m ≡ 0 → (i : ℕ) → marked (get_or m i 0) ≡ false
unfolding greatest
none_marked [] e i = zero_unmarked 0 refl
none_marked (b ∷ m) e zero = zero_unmarked b (omega arith)
none_marked (b ∷ m) e (suc i) = none_marked m (omega arith) i

-- ── How many are marked ──

pub count_append : (m n : List ℕ) → count (m ++ n) ≡ count m + count n
unfolding count
count_append [] n = omega arith
count_append (b ∷ m) n = omega (arith, count_append m n)

pub count_most : (m : List ℕ) → count m ≤ length m
unfolding count
count_most [] = omega arith
count_most (b ∷ m) = omega (arith, bit_most (marked b), count_most m)

pub count_none : (m : List ℕ) → greatest m ≡ 0 → count m ≡ 0
unfolding count greatest bit
count_none [] e = refl
count_none (b ∷ m) e = ap₂ (λ t n. bit t + n) (zero_unmarked b (omega arith)) (count_none m (omega arith))
