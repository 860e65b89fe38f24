-- The two words side by side, and the position 4 further.
use Rattle.std.proofs.Common.{refl}
use Rattle.read_bits.proofs.RefilledLaws.{joined_is}
use Rattle.read_bits.proofs.joined.Goals as goal

pub returns : goal.returns
returns c = rw (c.from.ensures, c.from-2.ensures) (joined_is c.args.bits _ _ _ _ refl)
