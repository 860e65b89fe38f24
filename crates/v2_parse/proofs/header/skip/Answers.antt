-- The state is that of the read.
use Rattle.std.proofs.Common.{ap}
use Rattle.rules.specs.declared.reader.Got.{Got}
use Rattle.v2_parse.proofs.header.skip.Goals as goal

pub returns : goal.returns
returns c = ap (λ (g : Got). g.bits) c.get.ensures
