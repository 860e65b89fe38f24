-- The test of the whole table: its 32 entries are computed from the rule, and are the code's.
use Rattle.std.proofs.Common.{refl}
use Rattle.rules.specs.Frame.{tabulate}
use Rattle.rules.specs.V2.{position}
use Rattle.v2_differences.proofs.positions.table.Goals as goal

pub returns : goal.returns
unfolding tabulate position
returns c = refl
