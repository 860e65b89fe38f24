-- Each way is a case of the rule: no bits, the length, or 32.
use mathlib.Core.Path.{◌∙◌, ap}
use lib.IntN.{nat_abs}
use mir.ValLaws.{to_z-of_z}
use mir.Syntax.{w32}
use Rattle.v0_parse.proofs.BlockLaws.{bits_none, bits_cast, bits_few, bits_most}
use Rattle.v0_parse.proofs.block.residual_length.Goals as goal

pub returns-then-length-le0 : goal.returns-then-length-le0
returns-then-length-le0 c = bits_none c.args.length (rw (to_z-of_z w32 c.args.length c.ranges.length) at c.if-length-le0.true)

pub overflow_cast-result : goal.overflow_cast-result
overflow_cast-result c = bits_cast c.args.length (rw (to_z-of_z w32 c.args.length c.ranges.length) at c.if-length-le0.false) c.ranges.length

pub returns-then-length-lt32 : goal.returns-then-length-lt32
returns-then-length-lt32 c = let l = c.args.length in let e = to_z-of_z w32 l c.ranges.length in ap nat_abs e ∙ bits_few l (rw e at c.if-length-le0.false) (rw e at c.if-length-lt32.true)

pub returns : goal.returns
returns c = let l = c.args.length in bits_most l (rw (to_z-of_z w32 l c.ranges.length) at c.if-length-lt32.false)
