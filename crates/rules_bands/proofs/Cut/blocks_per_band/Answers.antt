-- The width over the block width, rounded up.
use mathlib.Core.Path.{◌∙◌}
use native.Mathlib.Omega.{arith}
use Rattle.rules_bands.proofs.CheckLaws.{none_late, some_blocks}
use Rattle.rules_bands.proofs.Cut.blocks_per_band.Goals as goal

pub returns-then-late_rows-eq0 : goal.returns-then-late_rows-eq0
returns-then-late_rows-eq0 c = none_late _ (omega (arith, c.late_rows.ensures))

pub returns : goal.returns
returns c = c.div_ceil.ensures ∙ some_blocks c.args.self (omega (arith, c.late_rows.ensures)) (omega arith)
