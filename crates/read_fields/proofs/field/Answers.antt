-- Quotient and remainder are by powers of two, which are not 0, and a remainder by 2^k for k at most 32 has 32 bits.
use Prim.Native.Nat.{ℕ, ◌%◌, ◌^◌, ◌≤◌, ◌<◌}
use native.Mathlib.Nat.{mod-lt}
use native.Mathlib.Omega.{arith}
use lib.Pow.{pow_pos, pow_mono}
use Rattle.read_fields.proofs.field.Goals as goal

below : (x k : ℕ) → k ≤ 32 → x % 2 ^ k < 2 ^ 32
below x k h = omega (arith, mod-lt x (pow_pos k), pow_mono h)

pub nonzero_div-result : goal.nonzero_div-result
nonzero_div-result c = omega (arith, pow_pos c.args.left)

pub nonzero_rem-result : goal.nonzero_rem-result
nonzero_rem-result c = omega (arith, pow_pos c.args.k)

pub overflow_cast-result : goal.overflow_cast-result
overflow_cast-result c = rw c.power-2.ensures (let a = c.args in record { fits = below _ a.k c.requires.1 })

pub returns : goal.returns
returns c = cc
