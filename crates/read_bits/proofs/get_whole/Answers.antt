-- The cut of what `refill` leaves is the read; less than 32 bits are left, so the remainder is the count itself.
use Rattle.read_bits.proofs.RefilledLaws.{read_cut}
use Rattle.read_bits.proofs.get_whole.Goals as goal

pub returns : goal.returns
returns c = read_cut _ _ _ _ c.refill-r.result _ c.capped-k.ensures c.refill-r.ensures c.field.ensures
