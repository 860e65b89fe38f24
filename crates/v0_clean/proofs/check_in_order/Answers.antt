-- Each row in turn, those before it having had no fault.
use mathlib.Core.Path.{◌≡◌, ◌∙◌}
use native.Mathlib.Omega.{arith}
use borrow.Author.Rules.{rules}
use Rattle.std.specs.Prelude.{Err}
use Rattle.v0_clean.specs.Rows.{in_order}
use Rattle.v0_clean.proofs.FrameLaws.{row_of_four, told_first, told_none}
use Rattle.v0_clean.proofs.check_in_order.Goals as goal

pub check_rest-requires : goal.check_rest-requires
check_rest-requires c = let p = c.requires in (row_of_four p.0 _ (omega arith), p.1.first)

pub returns-in_err-check_rest : goal.returns-in_err-check_rest
unfolding in_order
returns-in_err-check_rest c =
    let r : c.from_residual.result ≡ Err c.in_err-check_rest.field-0.0 = search rules in
    rw r (told_first _ _ c.check_rest.ensures _ c.in_err-check_rest.was)

pub check_rest-requires-2 : goal.check_rest-requires-2
check_rest-requires-2 c = let p = c.requires in (row_of_four p.0 _ (omega arith), p.1.second)

pub returns-in_err-check_rest-2 : goal.returns-in_err-check_rest-2
unfolding in_order
returns-in_err-check_rest-2 c =
    let r : c.from_residual-in_err-check_rest-2.result ≡ Err c.in_err-check_rest-2.field-0.0 = search rules in
    rw r (told_first _ _ c.check_rest-2.ensures _ c.in_err-check_rest-2.was ∙ told_none _ _ c.check_rest.ensures _ c.in_ok-check_rest.was)

pub check_rest-requires-3 : goal.check_rest-requires-3
check_rest-requires-3 c = let p = c.requires in (row_of_four p.0 _ (omega arith), p.1.third)

pub returns-in_err-check_rest-3 : goal.returns-in_err-check_rest-3
unfolding in_order
returns-in_err-check_rest-3 c =
    let r : c.from_residual-in_err-check_rest-3.result ≡ Err c.in_err-check_rest-3.field-0.0 = search rules in
    rw r (told_first _ _ c.check_rest-3.ensures _ c.in_err-check_rest-3.was ∙ told_none _ _ c.check_rest-2.ensures _ c.in_ok-check_rest-2.was ∙ told_none _ _ c.check_rest.ensures _ c.in_ok-check_rest.was)

pub check_rest-requires-4 : goal.check_rest-requires-4
check_rest-requires-4 c = let p = c.requires in (row_of_four p.0 _ (omega arith), p.1.fourth)

pub returns : goal.returns
unfolding in_order
returns c =
    c.check_rest-4.ensures ∙ told_none _ _ c.check_rest-3.ensures _ c.in_ok-check_rest-3.was ∙ told_none _ _ c.check_rest-2.ensures _ c.in_ok-check_rest-2.was ∙ told_none _ _ c.check_rest.ensures _ c.in_ok-check_rest.was
