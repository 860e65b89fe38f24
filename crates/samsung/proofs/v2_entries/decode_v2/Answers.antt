-- `decode_v2` meets its contract: a refusal of 1 to 3 is the rules', and else the frame's answer and samples are what the decoder leaves.
use mathlib.Core.Path.{refl, sym}
use mathlib.Core.Logic.{inr}
use mathlib.Core.Option.{none}
use native.Mathlib.Omega.{arith}
use lib.Seq.{length-take-le}
use Rattle.rules.specs.Answer.{frame_samples, stream_answer}
use Rattle.rules.proofs.RefusalNumbers.{number_not}
use Rattle.samsung.proofs.Opening.{v2_tested, v2_opened}
use Rattle.samsung.proofs.EntryLaws.{refused_yields, passed_answer, passed_samples}
use Rattle.samsung.proofs.v2_entries.decode_v2.Goals as goal

pub returns-in-Err : goal.returns-in-Err
returns-in-Err c = refused_yields (v2_tested c.in-Err.ensures) (number_not _) c.from.ensures

pub overflow_mul-n : goal.overflow_mul-n
overflow_mul-n c = omega (arith, ((let a = c.args in v2_opened a.src.now a.width a.height a.out.now none c.in_default.ensures)).few)

pub slice_bounds-decode_frame-end : goal.slice_bounds-decode_frame-end
slice_bounds-decode_frame-end c = ((let a = c.args in v2_opened a.src.now a.width a.height a.out.now none c.in_default.ensures)).samples_enough

pub slice_bounds-decode_frame-end-2 : goal.slice_bounds-decode_frame-end-2
slice_bounds-decode_frame-end-2 c = sym (length-take-le _ _ ((((let a = c.args in v2_opened a.src.now a.width a.height a.out.now none c.in_default.ensures)).samples_enough)))

pub decode_frame-requires : goal.decode_frame-requires
decode_frame-requires c =
    let p = (let a = c.args in v2_opened a.src.now a.width a.height a.out.now none c.in_default.ensures) in
    record { width = p.wide; height = p.high; samples_lent = p.samples_lent; map_lent = inr refl }

pub returns : goal.returns
unfolding frame_samples stream_answer
returns c =
    let o = (let a = c.args in v2_opened a.src.now a.width a.height a.out.now none c.in_default.ensures) in
    let d = c.decode_frame.ensures in
    record { answered = passed_answer o d.answered; samples = passed_samples o d.samples; map = refl; scratch = refl }
