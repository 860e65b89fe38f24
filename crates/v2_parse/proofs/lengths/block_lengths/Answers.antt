-- The lengths follow the bit, or are all 0.
use Rattle.std.proofs.Common.{sym, ◌∙◌, ne_eqb}
use Rattle.v2_parse.proofs.LengthLaws.{lengths_follow, lengths_zero}
use Rattle.v2_parse.proofs.lengths.block_lengths.Goals as goal

pub returns-then-flag-eq0 : goal.returns-then-flag-eq0
returns-then-flag-eq0 c = c.four_lengths.ensures ∙ sym (lengths_follow _ _ _ _ _ _ c.lengths_bit-flag.ensures c.if-flag-eq0.true)

pub returns : goal.returns
returns c = sym (lengths_zero _ _ _ _ _ _ c.lengths_bit-flag.ensures (ne_eqb _ _ c.if-flag-eq0.false))
