-- At the greatest count it stays.
use Rattle.rules.specs.Reader.{counted}
use Rattle.read_bits.proofs.count_missing.Goals as goal

pub returns : goal.returns
unfolding counted
returns c = c.saturating_add.ensures
