-- The tests come in their sequence: each number is the definition's first that holds.
use mathlib.Core.Path.{◌≡◌, refl, sym, ap}
use native.Mathlib.Omega.{arith}
use borrow.Author.Rules.{rules}
use lib.Seq.{length-take-le}
use Rattle.std.specs.Prelude.{Err}
use Rattle.rules.specs.Refusals.{refusal_number}
use Rattle.rules.proofs.RefusalNumbers.{number_not}
use Rattle.rules_clean.specs.Verdict.{fault_at}
use Rattle.write_packed.specs.Proposal.{proposal}
use Rattle.entry_convert.proofs.ProposalLaws.{meant_lent, all_lent, clean, early_before, short_before, checkable, fault_before, long_before, done_before}
use Rattle.entry_convert.proofs.proposal.check_before.Goals as goal

pub returns-in_err-refuse_samples : goal.returns-in_err-refuse_samples
returns-in_err-refuse_samples c =
    let e : c.from_residual.result ≡ Err (record { refusal = c.in_err-refuse_samples.field-0.0; row = 0 }) = search rules in
    rw e (early_before _ _ c.in_err-refuse_samples.ensures (number_not _) refl)

pub returns-in_err-refuse_direct : goal.returns-in_err-refuse_direct
returns-in_err-refuse_direct c =
    let e : c.from_residual-in_err-refuse_direct.result ≡ Err (record { refusal = c.in_err-refuse_direct.field-0.0; row = 0 }) = search rules in
    rw e (short_before (meant_lent (let a = c.args in proposal a.src.now a.offsets.now a.width a.height a.meant.now) c.args.scratch c.in_ok-refuse_samples.ensures refl) c.in_err-refuse_direct.ensures (number_not _) refl)

pub check_frame-requires : goal.check_frame-requires
check_frame-requires c = checkable (all_lent (meant_lent (let a = c.args in proposal a.src.now a.offsets.now a.width a.height a.meant.now) c.args.scratch c.in_ok-refuse_samples.ensures refl) c.in_ok-refuse_direct.ensures refl)

pub returns-in_err-check_frame : goal.returns-in_err-check_frame
returns-in_err-check_frame c =
    let e : c.from_residual-in_err-check_frame.result ≡ Err c.in_err-check_frame.field-0.0 = search rules in
    rw e (fault_before (all_lent (meant_lent (let a = c.args in proposal a.src.now a.offsets.now a.width a.height a.meant.now) c.args.scratch c.in_ok-refuse_samples.ensures refl) c.in_ok-refuse_direct.ensures refl) c.in_err-check_frame.ensures (number_not _))

pub overflow_mul-n : goal.overflow_mul-n
overflow_mul-n c = omega (arith, (clean (all_lent (meant_lent (let a = c.args in proposal a.src.now a.offsets.now a.width a.height a.meant.now) c.args.scratch c.in_ok-refuse_samples.ensures refl) c.in_ok-refuse_direct.ensures refl) c.in_ok-check_frame.ensures refl).lent.meant.few)

pub slice_bounds-v0_length-end : goal.slice_bounds-v0_length-end
slice_bounds-v0_length-end c = sym (length-take-le _ _ (clean (all_lent (meant_lent (let a = c.args in proposal a.src.now a.offsets.now a.width a.height a.meant.now) c.args.scratch c.in_ok-refuse_samples.ensures refl) c.in_ok-refuse_direct.ensures refl) c.in_ok-check_frame.ensures refl).lent.meant.enough)

pub v0_length-requires : goal.v0_length-requires
v0_length-requires c = (clean (all_lent (meant_lent (let a = c.args in proposal a.src.now a.offsets.now a.width a.height a.meant.now) c.args.scratch c.in_ok-refuse_samples.ensures refl) c.in_ok-refuse_direct.ensures refl) c.in_ok-check_frame.ensures refl).lent.meant.writable

pub returns-then-v0_length-src : goal.returns-then-v0_length-src
returns-then-v0_length-src c =
    long_before (clean (all_lent (meant_lent (let a = c.args in proposal a.src.now a.offsets.now a.width a.height a.meant.now) c.args.scratch c.in_ok-refuse_samples.ensures refl) c.in_ok-refuse_direct.ensures refl) c.in_ok-check_frame.ensures refl) c.v0_length.ensures c.if-v0_length-src.true (ap (λ f. fault_at f.row (refusal_number f.refusal)) c.from.ensures)

pub returns : goal.returns
returns c = done_before (clean (all_lent (meant_lent (let a = c.args in proposal a.src.now a.offsets.now a.width a.height a.meant.now) c.args.scratch c.in_ok-refuse_samples.ensures refl) c.in_ok-refuse_direct.ensures refl) c.in_ok-check_frame.ensures refl) c.v0_length.ensures c.if-v0_length-src.false refl
