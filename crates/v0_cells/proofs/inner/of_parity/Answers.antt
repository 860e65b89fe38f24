-- The two ways of the test.
use Rattle.std.proofs.Common.{ne_eqb}
use Rattle.v0_cells.proofs.inner.of_parity.Goals as goal

pub returns-then-c-eq0 : goal.returns-then-c-eq0
returns-then-c-eq0 g c = rw c.if-c-eq0.true

pub returns-else-c-eq0 : goal.returns-else-c-eq0
returns-else-c-eq0 g c = rw (ne_eqb _ _ c.if-c-eq0.false)
