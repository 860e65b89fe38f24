-- What a sample's value is held to, and what it is where the scale is 0.
use mathlib.Core.Path.{◌≡◌, refl, ap, ◌∙◌}
use Prim.Native.Nat.{ℕ, zero, suc, min}
use native.Mathlib.Omega.{arith}
use lib.IntN.{ℤ, pos, negsuc, nat_abs, one, ◌+ℤ◌, ◌*ℤ◌, +ℤ_idr, *ℤ-one}
use borrow.Author.Tests.{lt-ltb}
use Rattle.std.specs.Int.{int_max}
use Rattle.rules.specs.V2.{hold, value}

-- The greater of a value and 0, and the lesser of that and top.
pub hold_is : (top : ℕ) (z : ℤ) → min (nat_abs (int_max z (pos 0))) top ≡ hold top z
unfolding hold
hold_is top (pos zero) = refl
hold_is top (pos (suc n)) = rw (lt-ltb 0 (suc n) (omega arith))
hold_is top (negsuc n) = omega arith

-- A scale of 0 leaves the base and the difference.
pub value_unscaled : (b : ℕ) (d : ℤ) → value b d (pos 0) ≡ pos b +ℤ d
unfolding value one
value_unscaled b d = +ℤ_idr (pos b +ℤ d *ℤ one) ∙ ap (λ (z : ℤ). pos b +ℤ z) (*ℤ-one d)
