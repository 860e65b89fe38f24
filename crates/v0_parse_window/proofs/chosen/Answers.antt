-- A product with 0 or 1 of numbers so near to 0 stays within 32 signed bits.
use Rattle.v0_parse_window.proofs.ChosenLaws.{difference_fits, product_fits, sum_fits, chosen_is}
use Rattle.v0_parse_window.proofs.chosen.Goals as goal

pub overflow_sub-result : goal.overflow_sub-result
overflow_sub-result c = let p = c.requires in difference_fits c.args.t c.args.a c.args.b p.0 p.1.0 p.1.1 c.ranges.a c.ranges.b

pub overflow_mul-result : goal.overflow_mul-result
overflow_mul-result c = let p = c.requires in product_fits c.args.t c.args.a c.args.b p.0 p.1.0 p.1.1 c.ranges.a c.ranges.b

pub overflow_add-result : goal.overflow_add-result
overflow_add-result c = let p = c.requires in sum_fits c.args.t c.args.a c.args.b p.0 p.1.0 p.1.1 c.ranges.a c.ranges.b

pub returns : goal.returns
returns c = let p = c.requires in chosen_is c.args.t c.args.a c.args.b p.0 p.1.0 p.1.1 c.ranges.a c.ranges.b
