-- Which of the two lengths it takes is the test of the rule.
use native.Mathlib.Omega.{arith}
use borrow.Author.Tests.{lt-ltb, le-ltb}
use Rattle.rules.specs.V2.{fresh_mode}
use Rattle.rules.proofs.v2.V2Row.mode.Goals as goal

pub returns-then-row-lt2 : goal.returns-then-row-lt2
unfolding fresh_mode
returns-then-row-lt2 c = rw (lt-ltb c.args.row 2 (omega arith))

pub returns-else-row-lt2 : goal.returns-else-row-lt2
unfolding fresh_mode
returns-else-row-lt2 c = rw (le-ltb c.args.row 2 (omega arith))
