-- Row 2 on is no early row, whatever the direction.
use native.Mathlib.Omega.{arith}
use borrow.Author.Tests.{lt-ltb, le-ltb}
use Rattle.v0_clean.proofs.is_early.Goals as goal

pub returns-then-row-lt2 : goal.returns-then-row-lt2
returns-then-row-lt2 c = rw (lt-ltb c.args.row 2 (omega arith))

pub returns-else-row-lt2 : goal.returns-else-row-lt2
returns-else-row-lt2 c = rw (le-ltb c.args.row 2 (omega arith))
