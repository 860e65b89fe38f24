-- Rows and columns within the limits keep every sum small.
use native.Mathlib.Omega.{arith}
use borrow.Author.Tests.{eq-eqb, ne_eqb}
use Rattle.rules.specs.Ranges.{reference_5}
use Rattle.rules.proofs.V2Places.{offset_most}
use Rattle.v2_cells.proofs.BaseLaws.{rows_room}
use Rattle.v2_cells.proofs.base.reference_plus_5.Goals as goal

pub overflow_add-col-2 : goal.overflow_add-col-2
overflow_add-col-2 c = omega (arith, c.offset_plus_4.ensures, offset_most c.args.motion, c.requires.placed.column)

pub overflow_add-result : goal.overflow_add-result
overflow_add-result c = omega (arith, rows_room c.args.at.row c.args.at.width c.requires.placed.high c.requires.placed.wide, c.offset_plus_4.ensures, offset_most c.args.motion)

pub overflow_add-result-then-at-i-eq1 : goal.overflow_add-result-then-at-i-eq1
overflow_add-result-then-at-i-eq1 c = omega (arith, rows_room c.args.at.row c.args.at.width c.requires.placed.high c.requires.placed.wide, c.offset_plus_4.ensures, offset_most c.args.motion)

pub overflow_add-result-else-at-i-eq1 : goal.overflow_add-result-else-at-i-eq1
overflow_add-result-else-at-i-eq1 c = omega (arith, rows_room c.args.at.row c.args.at.width c.requires.placed.high c.requires.placed.wide, c.offset_plus_4.ensures, offset_most c.args.motion)

pub overflow_add-result-else-at-i-eq1-2 : goal.overflow_add-result-else-at-i-eq1-2
overflow_add-result-else-at-i-eq1-2 c = omega (arith, rows_room c.args.at.row c.args.at.width c.requires.placed.high c.requires.placed.wide, c.offset_plus_4.ensures, offset_most c.args.motion)

pub returns-then-at-i-eq1 : goal.returns-then-at-i-eq1
unfolding reference_5
returns-then-at-i-eq1 c = rw (eq-eqb _ _ c.if-at-i-eq1.true, c.offset_plus_4.ensures) (omega arith)

pub returns-else-at-i-eq1 : goal.returns-else-at-i-eq1
unfolding reference_5
returns-else-at-i-eq1 c = rw (ne_eqb _ _ c.if-at-i-eq1.false, c.offset_plus_4.ensures) (omega arith)
