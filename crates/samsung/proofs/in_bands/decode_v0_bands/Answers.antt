-- `decode_v0_bands` meets its contract: the plain call's refusals come first, then the list's, and else the frame in bands leaves
-- what the definition says.
use mathlib.Core.Path.{refl, sym, ◌∙◌}
use native.Mathlib.Omega.{arith}
use lib.Seq.{length-take-le}
use Rattle.rules.proofs.RefusalNumbers.{number_not}
use Rattle.samsung.proofs.Opening.{two_phase_tested, two_phase_opened, two_phase_v0}
use Rattle.rules_bands.proofs.Calls.{list_passed, refusal_list, refused_yields, done_yields}
use Rattle.samsung.proofs.EntryLaws.{bands_refused}
use Rattle.samsung.proofs.in_bands.decode_v0_bands.Goals as goal

pub returns-in-Err : goal.returns-in-Err
returns-in-Err c = bands_refused _ (two_phase_tested c.in-Err.ensures) (number_not _) c.from.ensures

pub refuse_steps-requires : goal.refuse_steps-requires
refuse_steps-requires c = ((let a = c.args in two_phase_opened a.src.now a.offsets.now a.width a.height a.out.now a.scratch.now c.in_default.ensures)).wide

pub returns-in-Err-refuse_steps : goal.returns-in-Err-refuse_steps
returns-in-Err-refuse_steps c =
    let o = (let a = c.args in two_phase_opened a.src.now a.offsets.now a.width a.height a.out.now a.scratch.now c.in_default.ensures) in
    refused_yields _ _ (refusal_list _ o.passed ∙ sym c.in-Err-refuse_steps.ensures) (number_not _) _ c.from-in-Err-refuse_steps.ensures

pub overflow_mul-n : goal.overflow_mul-n
overflow_mul-n c = omega (arith, ((let a = c.args in two_phase_opened a.src.now a.offsets.now a.width a.height a.out.now a.scratch.now c.in_default.ensures)).few)

pub slice_bounds-decode_frame-end : goal.slice_bounds-decode_frame-end
slice_bounds-decode_frame-end c = ((let a = c.args in two_phase_opened a.src.now a.offsets.now a.width a.height a.out.now a.scratch.now c.in_default.ensures)).samples_enough

pub slice_bounds-decode_frame-end-2 : goal.slice_bounds-decode_frame-end-2
slice_bounds-decode_frame-end-2 c = sym (length-take-le _ _ ((((let a = c.args in two_phase_opened a.src.now a.offsets.now a.width a.height a.out.now a.scratch.now c.in_default.ensures)).samples_enough)))

pub decode_frame-requires : goal.decode_frame-requires
decode_frame-requires c =
    let p = (let a = c.args in two_phase_opened a.src.now a.offsets.now a.width a.height a.out.now a.scratch.now c.in_default.ensures) in
    let l = list_passed _ _ (sym c.in_default-refuse_steps.ensures) in
    record { width = p.wide; height = p.high; offsets_enough = p.offsets_enough two_phase_v0; samples_lent = p.samples_lent; scratch_lent = p.scratch_enough refl; cut_fits = l.0; list_good = l.1 }

pub returns : goal.returns
returns c =
    let ok = refusal_list _ ((let a = c.args in two_phase_opened a.src.now a.offsets.now a.width a.height a.out.now a.scratch.now c.in_default.ensures)).passed ∙ sym c.in_default-refuse_steps.ensures in
    let d = c.decode_frame.ensures in
    done_yields _ ok _ c.done.ensures _ _ d.samples d.directions
