-- A depth is at most 16, so that the power loses nothing.
use Rattle.std.proofs.Common.{◌≡◌, ℕ, ◌*◌, ◌%◌, ◌^◌, ◌<◌, mod-eq_of_lt, one-mul, arith, pow_pos}
use lib.Pow.{pow-lt}
use Rattle.rules.specs.V2.{top}
use Rattle.v2_parse.proofs.header.top_of.Goals as goal

one_up : (k : ℕ) → k < 32 → (1 * 2 ^ k) % 2 ^ 32 ≡ 2 ^ k
one_up k h = rw one-mul (mod-eq_of_lt (pow-lt h))

pub overflow_sub-result : goal.overflow_sub-result
overflow_sub-result c = let k = c.args.hdr.depth in rw (one_up k (omega arith)) (omega (arith, pow_pos k))

pub returns : goal.returns
unfolding top
returns c = let k = c.args.hdr.depth in rw (one_up k (omega arith))
