-- One read after another is the rule's list of fields.
use Rattle.rules.proofs.ReaderLaws.{four_reads}
use Rattle.read_bits.proofs.four.read_long.Goals as goal

pub returns : goal.returns
returns c = four_reads _ _ c.args.bits _ _ _ _ c.get-a.ensures c.get-b.ensures c.get-c.ensures c.get-d.ensures
