-- Four bytes remain exactly where both tests hold.
use Rattle.std.proofs.Common.{arith}
use Rattle.rules.proofs.ReaderLaws.{fetched_there, fetched_missing}
use Rattle.read_bits.proofs.fetch.Goals as goal

pub returns-then-at-n : goal.returns-then-at-n
returns-then-at-n c =
    cc (fetched_there c.args.src.now c.args.pos (omega arith))

pub returns-else-at-n : goal.returns-else-at-n
returns-else-at-n c = cc (fetched_missing c.args.src.now c.args.pos (omega arith))

pub returns-else-n-ge4 : goal.returns-else-n-ge4
returns-else-n-ge4 c = cc (fetched_missing c.args.src.now c.args.pos (omega arith))
