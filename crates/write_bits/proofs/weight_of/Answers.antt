-- A weight is below 2^17.
use native.Mathlib.Omega.{arith}
use Rattle.write_bits.proofs.Laws.{weight_low, weight_high}
use Rattle.write_bits.proofs.weight_of.Goals as goal

pub returns-then-x-lt32768 : goal.returns-then-x-lt32768
returns-then-x-lt32768 c = rw c.from-x.ensures (weight_low c.args.d (omega (arith, c.from-x.ensures)))

pub returns : goal.returns
returns c = rw c.from-x.ensures (weight_high c.args.d (omega (arith, c.from-x.ensures)))
