-- A block waits only after the run's first column, and lies inside its row.
use mathlib.Core.Path.{◌∙◌}
use native.Mathlib.Omega.{arith}
use Rattle.v0_cells.proofs.InnerLaws.{inner_fits, inner_inside}
use Rattle.v0_direct.proofs.RunLaws.{none_waits, one_waits}
use Rattle.v0_direct.proofs.run.finish.Goals as goal

pub returns-then-at-from : goal.returns-then-at-from
returns-then-at-from c = let x = none_waits _ _ _ _ _ c.if-at-from.true _ _ in record { samples = x.0; marks = x.1 }

pub overflow_sub-col : goal.overflow_sub-col
overflow_sub-col c = omega (arith, (c.requires.0 c.if-at-from.false).after)

pub overflow_mul-at : goal.overflow_mul-at
overflow_mul-at c = record { fits = omega (arith, inner_fits (c.requires.0 c.if-at-from.false)) }

pub overflow_add-at : goal.overflow_add-at
overflow_add-at c = record { fits = omega (arith, inner_fits (c.requires.0 c.if-at-from.false)) }

pub predict-requires : goal.predict-requires
predict-requires c = (inner_inside (c.requires.0 c.if-at-from.false) _ c.requires.1.0, inner_fits (c.requires.0 c.if-at-from.false))

pub mark_block-requires : goal.mark_block-requires
mark_block-requires c = ((c.requires.0 c.if-at-from.false), c.requires.1.1)

pub returns : goal.returns
returns c =
    let x = one_waits _ _ _ _ _ c.if-at-from.false _ _ in record {
      samples = c.predict.ensures ∙ x.0;
      marks = c.mark_block.ensures ∙ x.1;
    }
