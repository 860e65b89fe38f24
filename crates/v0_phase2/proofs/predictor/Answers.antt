-- The predictor case by case. Two rows above and two columns before exist from row 2 on, so that no difference goes below 0.
use Rattle.std.proofs.Common.{◌-◌, ◌*◌, ◌≤◌, mul-le-mul, arith, rules}
use Rattle.v0_cells.proofs.CellLaws.{product}
use Rattle.v0_phase2.proofs.PredictionLaws.{late_up, late_left, late_constant}
use Rattle.v0_phase2.proofs.predictor.Goals as goal

pub overflow_mul-result : goal.overflow_mul-result
overflow_mul-result c = let a = c.args in omega (arith, product (a.row - c.rows_up.result) a.w (omega arith) (omega arith))

pub overflow_add-result : goal.overflow_add-result
overflow_add-result c = let a = c.args in omega (arith, product (a.row - c.rows_up.result) a.w (omega arith) (omega arith))

pub overflow_add-result-then-up : goal.overflow_add-result-then-up
overflow_add-result-then-up c = let a = c.args in omega (arith, product (a.row - c.rows_up.result) a.w (omega arith) (omega arith))

pub returns-then-up : goal.returns-then-up
returns-then-up c = search late_up

pub overflow_mul-result-then-col-gt0 : goal.overflow_mul-result-then-col-gt0
overflow_mul-result-then-col-gt0 c = let a = c.args in omega (arith, product a.row a.w (omega arith) (omega arith))

pub overflow_add-result-then-col-gt0 : goal.overflow_add-result-then-col-gt0
overflow_add-result-then-col-gt0 c = let a = c.args in omega (arith, product a.row a.w (omega arith) (omega arith))

pub overflow_sub-result-then-col-gt0-2 : goal.overflow_sub-result-then-col-gt0-2
overflow_sub-result-then-col-gt0-2 c =
    let a = c.args in
    let r : 2 ≤ a.row = omega arith in
    let o : 1 ≤ a.w = omega arith in
    let l : 2 * 1 ≤ a.row * a.w = mul-le-mul r o in omega arith

pub returns-then-col-gt0 : goal.returns-then-col-gt0
returns-then-col-gt0 c = let a = c.args in late_left a.w a.row a.col a.up a.c (search rules) (omega arith)

pub returns-else-col-gt0 : goal.returns-else-col-gt0
returns-else-col-gt0 c = search late_constant
