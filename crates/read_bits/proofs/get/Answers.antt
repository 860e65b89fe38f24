-- What `get_whole` says of its value.
use Rattle.read_bits.proofs.get.Goals as goal

pub returns : goal.returns
returns c = c.get_whole.ensures.reads
