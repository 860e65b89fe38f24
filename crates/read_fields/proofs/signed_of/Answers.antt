-- The bits less what two's complement takes off, in 64 signed bits; the difference has 32.
use mathlib.Core.Path.{◌≡◌}
use Prim.Native.Nat.{ℕ, ◌*◌, ◌/◌, ◌<◌, ◌≤◌, ◌^◌}
use native.Mathlib.Omega.{arith}
use lib.IntN.{pos, ◌-ℤ◌}
use lib.Pow.{pow_mono}
use lib.Signed.{mag}
use mir.Syntax.{w32, w64}
use mir.Val.{SFits, to_z}
use mir.ValLaws.{to_z-of_z}
use borrow.Author.Tests.{lt-ltb}
use Rattle.rules.proofs.ReaderLaws.{sign_most, signed_is, signed_mag}
use Rattle.rules.specs.Reader.{signed}
use Rattle.read_fields.proofs.signed_of.Goals as goal

read_back : (n : ℕ) → n < 2 ^ 63 → to_z w64 n ≡ pos n
read_back n h = simp (lt-ltb n (2 ^ 63) h)

-- What is taken off fits, and the difference is the number.
module _ {k v s : ℕ} (most : k ≤ 32) (below : v < 2 ^ k) (off : s ≡ v * 2 / 2 ^ k * 2 ^ k) where
  small : s < 2 ^ 63
  small = omega (arith, off, sign_most k v below, pow_mono most)

  difference : to_z w64 v -ℤ to_z w64 s ≡ signed k v
  difference = rw (read_back v (omega (arith, pow_mono most)), read_back s small, off) (signed_is k v below)

  bound : mag (signed k v) < 2 ^ 31
  bound = signed_mag 31 k v most below

  wide : SFits w64 (signed k v)
  wide = record { sfits = omega (arith, bound) }

pub overflow_cast-result-2 : goal.overflow_cast-result-2
overflow_cast-result-2 c = record { sfits = small c.requires.0 c.requires.1 c.sign_part.ensures }

pub overflow_sub-result : goal.overflow_sub-result
overflow_sub-result c = let p = c.requires in let s = c.sign_part.ensures in rw (difference p.0 p.1 s) (wide p.0 p.1 s)

pub overflow_cast-result-3 : goal.overflow_cast-result-3
overflow_cast-result-3 c =
    let p = c.requires in
    let s = c.sign_part.ensures in
    rw (difference p.0 p.1 s, to_z-of_z w64 _ (wide p.0 p.1 s)) (record { sfits = bound p.0 p.1 s })

pub returns : goal.returns
returns c =
    let p = c.requires in
    let s = c.sign_part.ensures in
    rw (difference p.0 p.1 s, to_z-of_z w64 _ (wide p.0 p.1 s), to_z-of_z w32 _ (record { sfits = bound p.0 p.1 s }))
