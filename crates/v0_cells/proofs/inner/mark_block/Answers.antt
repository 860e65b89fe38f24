-- A frame of no cells stays one; else the block lies inside the map.
use Rattle.std.proofs.Common.{sym, ◌∙◌, arith, eqb-true}
use borrow.Author.Tests.{eqb-false}
use Rattle.rules.specs.Map.{v0_marks}
use Rattle.v0_cells.proofs.InnerLaws.{inner_fits, lent_inside, not_lent}
use Rattle.v0_cells.proofs.inner.mark_block.Goals as goal

pub returns-then-is_empty : goal.returns-then-is_empty
returns-then-is_empty c = not_lent v0_marks _ c.args.map.now (eqb-true _ 0 (sym c.is_empty.ensures ∙ c.if-is_empty.true))

pub overflow_mul-row : goal.overflow_mul-row
overflow_mul-row c = record { fits = omega (arith, inner_fits c.requires.0) }

pub overflow_add-row : goal.overflow_add-row
overflow_add-row c = record { fits = omega (arith, inner_fits c.requires.0) }

pub put_columns-requires : goal.put_columns-requires
put_columns-requires c =
    (lent_inside c.requires.0 c.args.map.now c.requires.1 (eqb-false _ 0 (sym c.is_empty.ensures ∙ c.if-is_empty.false)), inner_fits c.requires.0)
