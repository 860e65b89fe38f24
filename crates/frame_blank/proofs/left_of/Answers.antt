-- Where the column is less there is none; else it lies in the row.
use native.Mathlib.Omega.{arith}
use borrow.Author.Tests.{lt-ltb, le-ltb}
use Rattle.frame_blank.specs.MapLent.{left_of}
use Rattle.frame_blank.proofs.left_of.Goals as goal

pub returns-then-col-by : goal.returns-then-col-by
unfolding left_of
returns-then-col-by c = rw (lt-ltb _ _ c.if-col-by.true)

pub returns-else-col-by : goal.returns-else-col-by
unfolding left_of
returns-else-col-by c = rw (le-ltb c.args.col c.args.by (omega arith))
