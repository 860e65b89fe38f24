-- The row's own fault is decided before its first block, and after it if that has none.
use mathlib.Core.Path.{refl}
use Rattle.v0_clean.proofs.RowLaws.{row_begun, check_block, checking_on}
use Rattle.v0_clean.proofs.begin_row.Goals as goal

pub see_block-block-requires : goal.see_block-block-requires
see_block-block-requires c = check_block c.args.src.now c.args.size c.args.row _ c.fresh-state.result 0 c.requires.1 c.requires.0 (row_begun c.args.src.now c.args.size c.args.row c.args.offset c.fresh-state.result c.fresh-state.ensures)

pub returns-in-Err : goal.returns-in-Err
returns-in-Err c = row_begun c.args.src.now c.args.size c.args.row c.args.offset c.fresh-state.result c.fresh-state.ensures

pub returns-in-Ok : goal.returns-in-Ok
returns-in-Ok c =
    checking_on c.args.src.now c.args.size c.args.row _ c.fresh-state.result 0 c.requires.1 c.see_block-block.result 0 c.see_block-block.ensures c.in-Ok.ensures refl (row_begun c.args.src.now c.args.size c.args.row c.args.offset c.fresh-state.result c.fresh-state.ensures)
