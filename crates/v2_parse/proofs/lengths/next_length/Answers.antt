-- Flag 3 reads the length. Below it the flag's high bit less its low bit is taken off: one more, one less, or the same.
use Rattle.std.proofs.Common.{sym, ◌∙◌, arith, refl}
use Rattle.v2_parse.proofs.LengthLaws.{length_read, length_stepped}
use Rattle.v2_parse.proofs.lengths.next_length.Goals as goal

pub returns-then-flag-eq3 : goal.returns-then-flag-eq3
returns-then-flag-eq3 c = c.get.ensures ∙ sym (length_read _ _ _ _ c.if-flag-eq3.true)

pub returns : goal.returns
returns c = length_stepped _ _ _ _ c.if-flag-eq3.false c.requires (omega arith) _ _ refl refl
