-- The wrapping sum is the rule's sum modulo 2^64.
use Rattle.rules.specs.V2.{aligned}
use Rattle.v2_parse.proofs.header.align.Goals as goal

pub returns : goal.returns
unfolding aligned
returns c = c.reset_at.ensures
