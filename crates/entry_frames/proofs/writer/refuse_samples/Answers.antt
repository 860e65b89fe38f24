-- The tests of 1 and 3 come first, then that of 9.
use mathlib.Core.Path.{◌≡◌, refl, sym, ◌∙◌}
use mathlib.Core.Bool.{false}
use borrow.Author.Rules.{rules}
use Rattle.rules.proofs.RefusalNumbers.{number_not}
use native.Mathlib.Omega.{arith}
use borrow.Author.Tests.{ne_eqb}
use lib.ListN.{length}
use lib.Seq.{length-take-le}
use Rattle.entry_refusals.specs.Lending.{short}
use Rattle.std.specs.Prelude.{None, Err}
use Rattle.entry_refusals.proofs.RefusalLaws.{room}
use Rattle.entry_frames.proofs.EarlyLaws.{early_then}
use Rattle.entry_frames.proofs.writer.refuse_samples.Goals as goal

pub returns-in_err-refuse_lent : goal.returns-in_err-refuse_lent
unfolding short
returns-in_err-refuse_lent c =
    let e : c.from_residual.result ≡ Err c.in_err-refuse_lent.field-0.0 = search rules in
    rw e (sym (early_then _ _ None c.in_err-refuse_lent.ensures _ ∙ rw (ne_eqb _ 0 (number_not c.in_err-refuse_lent.field-0.0)) refl))

pub overflow_mul-n : goal.overflow_mul-n
overflow_mul-n c = omega (arith, ((let a = c.args in room a.size false (length a.samples.now) None None None 0 c.in_ok-refuse_lent.ensures refl)).few)

pub slice_bounds-is_too_bright-end : goal.slice_bounds-is_too_bright-end
slice_bounds-is_too_bright-end c = sym (length-take-le _ _ ((let a = c.args in room a.size false (length a.samples.now) None None None 0 c.in_ok-refuse_lent.ensures refl)).samples_enough)

pub returns-then-is_too_bright : goal.returns-then-is_too_bright
unfolding short
returns-then-is_too_bright c =
    sym (early_then _ _ None c.in_ok-refuse_lent.ensures _ ∙ rw (sym c.is_too_bright.ensures ∙ c.if-is_too_bright.true))

pub returns : goal.returns
unfolding short
returns c =
    sym (early_then _ _ None c.in_ok-refuse_lent.ensures _ ∙ rw (sym c.is_too_bright.ensures ∙ c.if-is_too_bright.false))
