-- The three tests are the rule's.
use native.Mathlib.Omega.{arith}
use Rattle.v2_cells.proofs.BaseLaws.{other_row, first_column, other_column}
use Rattle.v2_cells.proofs.base.refers_before.Goals as goal

pub returns-then-at-ne2 : goal.returns-then-at-ne2
returns-then-at-ne2 c = other_row _ _ _ (λ e. omega (arith, c.if-at-ne2.true))

pub returns-then-at-eq0 : goal.returns-then-at-eq0
returns-then-at-eq0 c = first_column _ _ _ (omega (arith, c.if-at-ne2.false)) (omega (arith, c.if-at-eq0.true))

pub returns-else-at-eq0 : goal.returns-else-at-eq0
returns-else-at-eq0 c = other_column _ _ _ (omega (arith, c.if-at-ne2.false)) (λ e. omega (arith, c.if-at-eq0.false))
