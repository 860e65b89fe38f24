-- Each case is one of the rule's.
use mir.ValLaws.{to_z-of_z}
use mir.Syntax.{w32}
use borrow.Author.Rules.{rules}
use Rattle.v0_parse.proofs.BlockLaws.{bits_skipped, bits_constant, bits_sample}
use Rattle.v0_parse.proofs.block.residual_bits.Goals as goal

pub returns-in-Skipped : goal.returns-in-Skipped
returns-in-Skipped c = bits_skipped _ _ (search rules)

pub returns-in-Constant : goal.returns-in-Constant
returns-in-Constant c = bits_constant c.args.from c.args.length c.residual_length.result (search rules) (rw (to_z-of_z w32 c.args.length c.ranges.length) at c.residual_length.ensures)

pub returns-in-Sample : goal.returns-in-Sample
returns-in-Sample c = bits_sample c.args.from c.args.length c.residual_length-in-Sample.result _ c.in-Sample.is (rw (to_z-of_z w32 c.args.length c.ranges.length) at c.residual_length-in-Sample.ensures)
