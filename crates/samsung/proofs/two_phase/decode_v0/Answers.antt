-- `decode_v0` meets its contract: a refusal is the rules', and else the frame's samples and directions are what the decoder leaves.
use mathlib.Core.Path.{refl, sym}
use mathlib.Core.Logic.{inr}
use native.Mathlib.Omega.{arith}
use lib.Seq.{length-take-le}
use Rattle.rules.specs.Answer.{frame_samples, frame_scratch, stream_answer}
use Rattle.rules.proofs.RefusalNumbers.{number_not}
use Rattle.samsung.proofs.Opening.{two_phase_tested, two_phase_opened, two_phase_v0, v0_lends}
use Rattle.samsung.proofs.EntryLaws.{refused_yields, passed_answer, passed_samples, passed_scratch}
use Rattle.samsung.proofs.two_phase.decode_v0.Goals as goal

pub returns-in-Err : goal.returns-in-Err
returns-in-Err c = refused_yields (two_phase_tested c.in-Err.ensures) (number_not _) c.from.ensures

pub overflow_mul-n : goal.overflow_mul-n
overflow_mul-n c = omega (arith, ((let a = c.args in two_phase_opened a.src.now a.offsets.now a.width a.height a.out.now a.scratch.now c.in_default.ensures)).few)

pub slice_bounds-decode_frame-end : goal.slice_bounds-decode_frame-end
slice_bounds-decode_frame-end c = ((let a = c.args in two_phase_opened a.src.now a.offsets.now a.width a.height a.out.now a.scratch.now c.in_default.ensures)).samples_enough

pub slice_bounds-decode_frame-end-2 : goal.slice_bounds-decode_frame-end-2
slice_bounds-decode_frame-end-2 c = sym (length-take-le _ _ ((((let a = c.args in two_phase_opened a.src.now a.offsets.now a.width a.height a.out.now a.scratch.now c.in_default.ensures)).samples_enough)))

pub decode_frame-requires : goal.decode_frame-requires
decode_frame-requires c =
    let p = (let a = c.args in two_phase_opened a.src.now a.offsets.now a.width a.height a.out.now a.scratch.now c.in_default.ensures) in
    record { frame = v0_lends p two_phase_v0 _ (inr refl); directions_lent = p.scratch_enough refl }

pub returns : goal.returns
unfolding frame_samples frame_scratch stream_answer
returns c =
    let o = (let a = c.args in two_phase_opened a.src.now a.offsets.now a.width a.height a.out.now a.scratch.now c.in_default.ensures) in
    let d = c.decode_frame.ensures in
    record { answered = passed_answer o c.done.ensures; samples = passed_samples o d.samples; map = refl; scratch = passed_scratch o _ d.directions }
