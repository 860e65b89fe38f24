-- Each way is a case of the rule; within the size limits no place leaves a machine word.
use Rattle.std.proofs.Common.{◌+◌, ◌-◌, ◌%◌, arith, rules}
use Rattle.v0_cells.proofs.CellLaws.{row_fits, predictor_none, predictor_up, predictor_constant, predictor_left}
use Rattle.v0_cells.proofs.cells.predict.Goals as goal

pub overflow_mul-place : goal.overflow_mul-place
overflow_mul-place c = record { fits = omega (arith, row_fits _ _ _ c.requires.0 c.args.row (omega arith)) }

pub overflow_add-place : goal.overflow_add-place
overflow_add-place c = record { fits = omega (arith, row_fits _ _ _ c.requires.0 c.args.row (omega arith)) }

pub overflow_add-place-2 : goal.overflow_add-place-2
overflow_add-place-2 c = record { fits = omega (arith, row_fits _ _ _ c.requires.0 c.args.row (omega arith)) }

pub returns-then-row-rows : goal.returns-then-row-rows
returns-then-row-rows c = search (predictor_none, arith)

pub overflow_mul-row : goal.overflow_mul-row
overflow_mul-row c = record { fits = omega (arith, row_fits _ _ _ c.requires.0 (c.args.row - (1 + c.args.c % 2)) (omega arith)) }

pub overflow_add-row : goal.overflow_add-row
overflow_add-row c = record { fits = omega (arith, row_fits _ _ _ c.requires.0 (c.args.row - (1 + c.args.c % 2)) (omega arith)) }

pub overflow_add-row-then-up : goal.overflow_add-row-then-up
overflow_add-row-then-up c = record { fits = omega (arith, row_fits _ _ _ c.requires.0 (c.args.row - (1 + c.args.c % 2)) (omega arith)) }

pub returns-then-up : goal.returns-then-up
returns-then-up c = predictor_up _ _ _ c.args.up c.args.c _ (search rules) (search rules) c.bounded.ensures

pub returns-then-col-eq0 : goal.returns-then-col-eq0
returns-then-col-eq0 c = search (predictor_constant, arith)

pub overflow_mul-row-2 : goal.overflow_mul-row-2
overflow_mul-row-2 c = record { fits = omega (arith, row_fits _ _ _ c.requires.0 c.args.row (omega arith)) }

pub overflow_add-row-2 : goal.overflow_add-row-2
overflow_add-row-2 c = record { fits = omega (arith, row_fits _ _ _ c.requires.0 c.args.row (omega arith)) }

pub overflow_sub-row-2 : goal.overflow_sub-row-2
overflow_sub-row-2 c = let i = c.requires.0 in omega (arith, i.block)

pub returns : goal.returns
returns c = predictor_left _ _ _ c.args.up c.args.c _ (search rules) (search rules) c.bounded-2.ensures
