-- The parts of a map byte that an average takes from two: only this file opens `either_part`.
use Prim.Native.Nat.{ℕ, ◌^◌, ◌<◌, max}
use mathlib.Core.Path.{◌≡◌}
use native.Mathlib.Omega.{arith}
use lib.Bits.{or_step, or_lt, or_add_and, and_le_l, and_le_r}
use Rattle.rules.specs.Map.{old_part, either_part}

-- The first part is the greater of two.
pub either_first : (a b : ℕ) → old_part (either_part a b) ≡ max (old_part a) (old_part b)
unfolding either_part
either_first a b = omega (arith, or_step a b)

-- An average that rests on bytes of the stream only is of two that do.
pub either_none : (a b : ℕ) → either_part a b ≡ 0 → (a ≡ 0) × (b ≡ 0)
unfolding either_part
either_none a b e = (omega (arith, or_add_and a b, and_le_r a b), omega (arith, or_add_and a b, and_le_l a b))

-- An average of two that rest on bytes of the stream only rests on those only.
pub none_either : (a b : ℕ) → a ≡ 0 → b ≡ 0 → either_part a b ≡ 0
unfolding either_part
none_either a b p q = rw (p, q)

-- It has no other parts.
pub either_below : (k a b : ℕ) → a < 2 ^ k → b < 2 ^ k → either_part a b < 2 ^ k
unfolding either_part
either_below k a b l m = or_lt k a b l m
