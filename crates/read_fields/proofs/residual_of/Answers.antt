-- 2^32 is at least what is taken off, and a multiple of 65,536.
use native.Mathlib.Omega.{arith}
use lib.Pow.{pow_mono}
use Rattle.rules.proofs.ReaderLaws.{sign_most, residual_is}
use Rattle.read_fields.proofs.residual_of.Goals as goal

pub overflow_sub-result : goal.overflow_sub-result
overflow_sub-result c = omega (arith, c.sign_part.ensures, sign_most c.args.k c.args.v c.requires.1, pow_mono c.requires.0)

pub returns : goal.returns
returns c = rw c.sign_part.ensures (residual_is c.args.k c.args.v c.requires.1 c.requires.0)
