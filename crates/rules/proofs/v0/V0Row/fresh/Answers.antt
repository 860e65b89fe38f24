-- Which of the two lengths it takes is the test of the rule.
use native.Mathlib.Omega.{arith}
use borrow.Author.Tests.{lt-ltb, le-ltb}
use Rattle.rules.specs.V0.{fresh_row}
use Rattle.rules.proofs.v0.V0Row.fresh.Goals as goal

pub returns-then-row-lt2 : goal.returns-then-row-lt2
unfolding fresh_row
returns-then-row-lt2 c = rw (lt-ltb c.args.row 2 (omega arith), c.new-bits.ensures, c.from.ensures)

pub returns : goal.returns
unfolding fresh_row
returns c = rw (le-ltb c.args.row 2 (omega arith), c.new-bits.ensures, c.from.ensures)
