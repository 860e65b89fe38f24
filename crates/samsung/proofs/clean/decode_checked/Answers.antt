-- A fault leaves the samples as they were; else they are the direct decoder's.
use mathlib.Core.Path.{◌≡◌, refl}
use borrow.Author.Rules.{rules}
use borrow.Author.Tests.{ne_eqb}
use Rattle.std.specs.Prelude.{Err}
use Rattle.rules.proofs.RefusalNumbers.{number_not}
use Rattle.samsung.proofs.clean.decode_checked.Goals as goal

pub returns-in_err-check_frame : goal.returns-in_err-check_frame
returns-in_err-check_frame c =
    let e : c.from_residual.result ≡ Err c.in_err-check_frame.field-0.0 = search rules in
    record {
      answered = rw e c.in_err-check_frame.ensures;
      samples = rw (e, ne_eqb _ 0 (number_not c.in_err-check_frame.field-0.0.refusal)) refl;
    }

pub returns : goal.returns
returns c = record { answered = c.in_ok-check_frame.ensures; samples = c.decode_frame.ensures.samples }
