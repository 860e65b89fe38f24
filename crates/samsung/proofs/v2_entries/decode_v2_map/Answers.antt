-- `decode_v2_map` meets its contract: a refusal of 1 to 4 is the rules', and else the frame's answer, samples and marks are what the
-- decoder leaves over a map that is all old.
use mathlib.Core.Path.{refl, sym, ap, ◌∙◌}
use mathlib.Core.Logic.{inl}
use mathlib.Core.Option.{some}
use native.Mathlib.Omega.{arith}
use lib.ListN.{length, replicate, length-replicate}
use lib.Seq.{length-take-le}
use Rattle.rules.specs.Answer.{frame_samples, frame_marks, stream_answer}
use Rattle.rules.specs.V2.{frame}
use Rattle.rules.specs.Map.{v2_map, v2_marks}
use Rattle.rules.proofs.RefusalNumbers.{number_not}
use Rattle.samsung.proofs.Opening.{v2_tested, v2_opened}
use Rattle.samsung.proofs.EntryLaws.{refused_yields, passed_answer, passed_samples, passed_map}
use Rattle.samsung.proofs.v2_entries.decode_v2_map.Goals as goal

pub returns-in-Err : goal.returns-in-Err
returns-in-Err c = refused_yields (v2_tested c.in-Err.ensures) (number_not _) c.from.ensures

pub overflow_mul-n : goal.overflow_mul-n
overflow_mul-n c = omega (arith, ((let a = c.args in v2_opened a.src.now a.width a.height a.out.now (some a.map.now) c.in_default.ensures)).few)

pub slice_bounds-marks-end : goal.slice_bounds-marks-end
slice_bounds-marks-end c = ((let a = c.args in v2_opened a.src.now a.width a.height a.out.now (some a.map.now) c.in_default.ensures)).map_enough _ refl

pub slice_bounds-marks-end-2 : goal.slice_bounds-marks-end-2
slice_bounds-marks-end-2 c = sym (length-take-le _ _ ((((let a = c.args in v2_opened a.src.now a.width a.height a.out.now (some a.map.now) c.in_default.ensures)).map_enough _ refl)))

pub slice_bounds-decode_frame-end : goal.slice_bounds-decode_frame-end
slice_bounds-decode_frame-end c = ((let a = c.args in v2_opened a.src.now a.width a.height a.out.now (some a.map.now) c.in_default.ensures)).samples_enough

pub slice_bounds-decode_frame-end-2 : goal.slice_bounds-decode_frame-end-2
slice_bounds-decode_frame-end-2 c = sym (length-take-le _ _ ((((let a = c.args in v2_opened a.src.now a.width a.height a.out.now (some a.map.now) c.in_default.ensures)).samples_enough)))

pub decode_frame-requires : goal.decode_frame-requires
decode_frame-requires c =
    let p = (let a = c.args in v2_opened a.src.now a.width a.height a.out.now (some a.map.now) c.in_default.ensures) in
    let whole = ap length c.mark_old.ensures ∙ length-replicate _ 1 ∙ sym (sym (length-take-le _ _ ((((let a = c.args in v2_opened a.src.now a.width a.height a.out.now (some a.map.now) c.in_default.ensures)).map_enough _ refl)))) in
    record { width = p.wide; height = p.high; samples_lent = p.samples_lent; map_lent = inl whole }

pub returns : goal.returns
unfolding frame_samples frame_marks stream_answer v2_map
returns c =
    let o = (let a = c.args in v2_opened a.src.now a.width a.height a.out.now (some a.map.now) c.in_default.ensures) in
    let ones = c.mark_old.ensures ∙ ap (λ n. replicate n 1) (sym (sym (length-take-le _ _ ((((let a = c.args in v2_opened a.src.now a.width a.height a.out.now (some a.map.now) c.in_default.ensures)).map_enough _ refl))))) in
    let d = c.decode_frame.ensures in
    record { answered = passed_answer o d.answered; samples = passed_samples o d.samples; map = passed_map o _ (d.marks ∙ ap (frame v2_marks _ _) ones); scratch = refl }
