-- The value read is below 2^k, as `signed_of` asks.
use Rattle.std.proofs.Common.{arith, w32}
use mir.ValLaws.{to_z-of_z}
use Rattle.rules.proofs.ReaderLaws.{read_below, read_signed_is}
use Rattle.read_bits.proofs.read_signed.Goals as goal

pub signed_of-requires : goal.signed_of-requires
signed_of-requires c = let a = c.args in rw (c.get-g.ensures, c.capped-k.ensures) (omega arith, read_below a.src.now a.bits a.n)

pub returns : goal.returns
returns c = let a = c.args in rw (to_z-of_z w32 c.signed_of.result (record { sfits = c.signed_of.type_inv })) (cc (read_signed_is a.src.now a.bits a.n))
