-- The run, then the block after it.
use native.Mathlib.Omega.{arith}
use Rattle.v0_cells.proofs.CellLaws.{product}
use Rattle.v0_direct.proofs.RowLaws.{block_after, ran_on}
use Rattle.v0_direct.proofs.row.decode_blocks.Goals as goal

pub decode_block-state-requires : goal.decode_block-state-requires
decode_block-state-requires c =
    block_after c.requires.0 (omega arith) c.decode_run-run.ensures.ran c.requires.1 c.decode_run-run.auto.out c.decode_run-run.auto.map

pub overflow_mul-at : goal.overflow_mul-at
overflow_mul-at c =
    let i = c.requires.0 in
    let fit = product c.args.at.row c.args.at.size.width (omega (arith, i.row_in, i.height)) (omega (arith, i.width)) in
    record { fits = omega (arith, fit) }

pub overflow_add-at : goal.overflow_add-at
overflow_add-at c =
    let i = c.requires.0 in
    let fit = product c.args.at.row c.args.at.size.width (omega (arith, i.row_in, i.height)) (omega (arith, i.width)) in
    record { fits = omega (arith, fit, i.width) }

pub end_block-requires : goal.end_block-requires
end_block-requires c =
    let i = c.requires.0 in
    let fit = product c.args.at.row c.args.at.size.width (omega (arith, i.row_in, i.height)) (omega (arith, i.width)) in
    omega (arith, fit, i.width)

pub overflow_add-result : goal.overflow_add-result
overflow_add-result c = record { fits = omega (arith, c.requires.0.width) }

pub returns : goal.returns
returns c =
    ran_on c.requires.0 (omega arith) c.decode_run-run.ensures.ran c.decode_block-state.ensures c.end_block.ensures
