-- The value read is below 2^k, as `residual_of` asks.
use Rattle.std.proofs.Common.{arith}
use Rattle.rules.proofs.ReaderLaws.{read_below, read_residual_is}
use Rattle.read_bits.proofs.read_residual.Goals as goal

pub residual_of-requires : goal.residual_of-requires
residual_of-requires c = let a = c.args in rw (c.get-g.ensures, c.capped-k.ensures) (omega arith, read_below a.src.now a.bits a.n)

pub returns : goal.returns
returns c = let a = c.args in cc (read_residual_is a.src.now a.bits a.n)
