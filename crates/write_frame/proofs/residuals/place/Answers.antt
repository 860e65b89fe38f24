-- Three ways: an odd column, an even one with another to its right, and the last. Each place is in the frame.
use mathlib.Core.Path.{ap, ◌∙◌}
use Prim.Native.Nat.{◌+◌}
use native.Mathlib.Omega.{arith}
use Rattle.write_frame.proofs.PlaceLaws.{product, place_in, odds_place, evens_place, last_place}
use Rattle.write_frame.proofs.residuals.place.Goals as goal

pub overflow_add-result : goal.overflow_add-result
overflow_add-result c = let a = c.args in let i = c.requires in record { fits = omega (arith, c.odds_start.ensures, odds_place a.size.width a.size.height a.row a.col (omega arith) i.col_in, place_in a.size.width a.size.height a.row a.col i.row_in i.col_in, product a.size.width a.size.height i.wide i.high) }

pub returns-then-col-eq1 : goal.returns-then-col-eq1
returns-then-col-eq1 c = let a = c.args in ap (λ x. x + a.col) c.odds_start.ensures ∙ odds_place a.size.width a.size.height a.row a.col (omega arith) c.requires.col_in

pub overflow_add-result-then-col-size : goal.overflow_add-result-then-col-size
overflow_add-result-then-col-size c = let a = c.args in let i = c.requires in record { fits = omega (arith, c.evens_start.ensures, evens_place a.size.width a.size.height a.row a.col (omega arith) (omega arith), place_in a.size.width a.size.height a.row a.col i.row_in i.col_in, product a.size.width a.size.height i.wide i.high) }

pub returns-then-col-size : goal.returns-then-col-size
returns-then-col-size c = let a = c.args in ap (λ x. x + a.col) c.evens_start.ensures ∙ evens_place a.size.width a.size.height a.row a.col (omega arith) (omega arith)

pub overflow_mul-result : goal.overflow_mul-result
overflow_mul-result c = let a = c.args in let i = c.requires in record { fits = omega (arith, last_place a.size.width a.size.height a.row a.col (λ e. omega arith) (omega arith), place_in a.size.width a.size.height a.row a.col i.row_in i.col_in, product a.size.width a.size.height i.wide i.high) }

pub overflow_add-result-2 : goal.overflow_add-result-2
overflow_add-result-2 c = let a = c.args in let i = c.requires in record { fits = omega (arith, last_place a.size.width a.size.height a.row a.col (λ e. omega arith) (omega arith), place_in a.size.width a.size.height a.row a.col i.row_in i.col_in, product a.size.width a.size.height i.wide i.high) }

pub returns : goal.returns
returns c = let a = c.args in last_place a.size.width a.size.height a.row a.col (λ e. omega arith) (omega arith)
