-- A count below 32 is held, any other counts as none.
use Rattle.std.proofs.Common.{sym}
use Rattle.rules.proofs.ReaderLaws.{held_is, held_none}
use Rattle.read_bits.proofs.held_bits.Goals as goal

pub returns-then-bits-lt-WORD_BITS : goal.returns-then-bits-lt-WORD_BITS
returns-then-bits-lt-WORD_BITS c = sym (held_is _ c.if-bits-lt-WORD_BITS.true)

pub returns-else-bits-lt-WORD_BITS : goal.returns-else-bits-lt-WORD_BITS
returns-else-bits-lt-WORD_BITS c = sym (held_none _ c.if-bits-lt-WORD_BITS.false)
