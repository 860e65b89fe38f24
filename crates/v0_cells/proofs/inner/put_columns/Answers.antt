-- The two directions.
use Rattle.v0_cells.proofs.inner.put_columns.Goals as goal

pub returns-then-up : goal.returns-then-up
returns-then-up g c = rw c.if-up.true c.put_up.ensures

pub returns : goal.returns
returns g c = rw c.if-up.false c.put_left.ensures
