-- `decode_v0_reference` meets its contract: a refusal is the rules', and else the frame's samples are what the decoder leaves.
use mathlib.Core.Path.{refl, sym, ap, ◌∙◌}
use mathlib.Core.Logic.{inr}
use mathlib.Core.Option.{none}
use native.Mathlib.Omega.{arith}
use lib.Seq.{length-take-le}
use Rattle.rules.specs.Answer.{done_with, frame_samples, stream_answer}
use Rattle.rules.proofs.RefusalNumbers.{number_not}
use Rattle.samsung.proofs.Opening.{direct_tested, direct_opened, direct_v0, v0_lends}
use Rattle.samsung.proofs.EntryLaws.{refused_yields, passed_answer, passed_samples}
use Rattle.samsung.proofs.direct.decode_v0_reference.Goals as goal

pub returns-in-Err : goal.returns-in-Err
returns-in-Err c = refused_yields (direct_tested c.in-Err.ensures) (number_not _) c.from.ensures

pub overflow_mul-n : goal.overflow_mul-n
overflow_mul-n c = omega (arith, ((let a = c.args in direct_opened a.src.now a.offsets.now a.width a.height a.out.now none c.in_default.ensures)).few)

pub slice_bounds-decode_frame-end : goal.slice_bounds-decode_frame-end
slice_bounds-decode_frame-end c = ((let a = c.args in direct_opened a.src.now a.offsets.now a.width a.height a.out.now none c.in_default.ensures)).samples_enough

pub slice_bounds-decode_frame-end-2 : goal.slice_bounds-decode_frame-end-2
slice_bounds-decode_frame-end-2 c = sym (length-take-le _ _ ((((let a = c.args in direct_opened a.src.now a.offsets.now a.width a.height a.out.now none c.in_default.ensures)).samples_enough)))

pub decode_frame-filler-requires : goal.decode_frame-filler-requires
decode_frame-filler-requires c = v0_lends ((let a = c.args in direct_opened a.src.now a.offsets.now a.width a.height a.out.now none c.in_default.ensures)) direct_v0 _ (inr refl)

pub returns : goal.returns
unfolding frame_samples stream_answer
returns c =
    let o = (let a = c.args in direct_opened a.src.now a.offsets.now a.width a.height a.out.now none c.in_default.ensures) in
    let d = c.decode_frame-filler.ensures in
    record { answered = passed_answer o (c.done_with.ensures ∙ ap done_with d.missing); samples = passed_samples o d.samples; map = refl; scratch = refl }
