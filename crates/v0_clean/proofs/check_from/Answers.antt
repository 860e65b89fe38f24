use mathlib.Core.Path.{◌≡◌, refl}
use borrow.Author.Rules.{rules}
use Rattle.std.specs.Prelude.{Err}
use Rattle.rules.proofs.RefusalNumbers.{number_not}
use native.Mathlib.Omega.{arith}
use Rattle.v0_clean.proofs.RowLaws.{from_point, check_block, check_found, checking_on, checked}
use Rattle.v0_clean.proofs.check_from.Goals as goal

pub loop-col-init : goal.loop-col-init
loop-col-init c = from_point _ c.args.size _ c.args.at c.requires.1

pub see_block-block-requires : goal.see_block-block-requires
see_block-block-requires c = check_block c.args.src.now c.args.size c.args.row _ c.loop-col.state c.loop-col.col (omega arith) c.requires.0 c.loop-col.invariant

pub returns-in_err-check_block : goal.returns-in_err-check_block
returns-in_err-check_block c =
    let r : c.from_residual.result ≡ Err c.in_err-check_block.field-0.0 = search rules in
    rw r (check_found c.args.src.now c.args.size c.args.row _ c.loop-col.state c.loop-col.col (omega arith) c.see_block-block.result _ c.see_block-block.ensures c.in_err-check_block.ensures (number_not _) c.loop-col.invariant)

pub overflow_add-col : goal.overflow_add-col
overflow_add-col c = omega arith

pub loop-col-smaller : goal.loop-col-smaller
loop-col-smaller c = omega arith

pub loop-col-preserved : goal.loop-col-preserved
loop-col-preserved c =
    checking_on c.args.src.now c.args.size c.args.row _ c.loop-col.state c.loop-col.col (omega arith) c.see_block-block.result 0 c.see_block-block.ensures c.in_ok-check_block.ensures refl c.loop-col.invariant

pub returns : goal.returns
returns c = checked c.args.src.now c.args.size c.args.row _ c.loop-col.state c.loop-col.col (omega arith) c.loop-col.invariant
