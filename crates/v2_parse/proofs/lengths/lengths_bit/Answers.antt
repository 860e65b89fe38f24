-- With the option no bit is read.
use Rattle.std.proofs.Common.{sym, ◌∙◌}
use Rattle.v2_parse.proofs.LengthLaws.{bit_none, bit_read}
use Rattle.v2_parse.proofs.lengths.lengths_bit.Goals as goal

pub returns-then-skips_bit : goal.returns-then-skips_bit
returns-then-skips_bit c = bit_none _ _ _ (sym c.skips_bit.ensures ∙ c.if-skips_bit.true)

pub returns-else-skips_bit : goal.returns-else-skips_bit
returns-else-skips_bit c = c.get.ensures ∙ sym (bit_read _ _ _ (sym c.skips_bit.ensures ∙ c.if-skips_bit.false))
