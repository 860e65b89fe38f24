use mathlib.Core.Path.{◌≡◌}
use native.Mathlib.Omega.{arith}
use borrow.Author.Rules.{rules}
use Rattle.std.specs.Prelude.{Err}
use Rattle.v0_clean.proofs.FrameLaws.{going_begun, going_found, going_on, gone}
use Rattle.v0_clean.proofs.check_frame.Goals as goal

pub loop-row-init : goal.loop-row-init
loop-row-init c = going_begun _ _ c.args.size

pub check_part-requires : goal.check_part-requires
check_part-requires c = (record { lent = c.requires; row_in = omega arith }, c.fill_heads.ensures)

pub returns-in_err-row : goal.returns-in_err-row
returns-in_err-row c =
    let a = c.args in
    let r : c.from_residual.result ≡ Err c.in_err-row.field-0.0 = search rules in
    rw r (going_found a.src.now a.offsets.now a.size c.loop-row.row _ c.check_part.ensures _ c.in_err-row.was c.loop-row.invariant)

pub loop-row-preserved : goal.loop-row-preserved
loop-row-preserved c =
    let a = c.args in
    going_on a.src.now a.offsets.now a.size c.loop-row.row _ c.check_part.ensures _ c.in_ok-row.was c.in_ok-row.ensures.how_many c.loop-row.invariant

pub returns : goal.returns
returns c =
    let a = c.args in
    gone a.src.now a.offsets.now a.size c.loop-row.row (omega arith) c.loop-row.invariant
