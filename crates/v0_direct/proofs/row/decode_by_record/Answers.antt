-- Nothing is skipped, so that the block's operations are its residuals with their predictors.
use native.Mathlib.Omega.{arith}
use Rattle.v0_cells.proofs.InnerLaws.{inner_fits, inner_inside}
use Rattle.v0_direct.proofs.InnerLaws.{inner_decoded}
use Rattle.v0_direct.proofs.row.decode_by_record.Goals as goal

pub overflow_mul-at : goal.overflow_mul-at
overflow_mul-at c = record { fits = omega (arith, inner_fits c.requires.0) }

pub overflow_add-at : goal.overflow_add-at
overflow_add-at c = record { fits = omega (arith, inner_fits c.requires.0) }

pub put_inner-requires : goal.put_inner-requires
put_inner-requires c = (inner_inside c.requires.0 c.args.out.now c.requires.1.samples_lent, inner_fits c.requires.0)

pub returns : goal.returns
returns c =
    let x = c.read_block-x in
    inner_decoded c.args.src.now c.args.state c.requires.0 x.result x.ensures _ _ _ _ c.put_inner.ensures
    c.mark_block.ensures
