-- The record is the rule's.
use Rattle.std.proofs.Common.{refl}
use Rattle.read_bits.proofs.reset_at.Goals as goal

pub returns : goal.returns
returns c = refl
