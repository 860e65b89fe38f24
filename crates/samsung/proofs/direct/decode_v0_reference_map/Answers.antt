-- `decode_v0_reference_map` meets its contract: a refusal is the rules', and else the frame's samples and marks are what the decoder
-- leaves over a map that is all old.
use mathlib.Core.Path.{refl, sym, ap, ◌∙◌}
use mathlib.Core.Logic.{inl}
use mathlib.Core.Option.{some}
use native.Mathlib.Omega.{arith}
use lib.ListN.{length, replicate, length-replicate}
use lib.Seq.{length-take-le}
use Rattle.rules.specs.Answer.{done_with, frame_samples, frame_marks, stream_answer}
use Rattle.rules.specs.V0.{frame}
use Rattle.rules.specs.Map.{v0_map, v0_marks}
use Rattle.rules.proofs.RefusalNumbers.{number_not}
use Rattle.samsung.proofs.Opening.{direct_tested, direct_opened, direct_v0, v0_lends}
use Rattle.samsung.proofs.EntryLaws.{refused_yields, passed_answer, passed_samples, passed_map}
use Rattle.samsung.proofs.direct.decode_v0_reference_map.Goals as goal

pub returns-in-Err : goal.returns-in-Err
returns-in-Err c = refused_yields (direct_tested c.in-Err.ensures) (number_not _) c.from.ensures

pub overflow_mul-n : goal.overflow_mul-n
overflow_mul-n c = omega (arith, ((let a = c.args in direct_opened a.src.now a.offsets.now a.width a.height a.out.now (some a.map.now) c.in_default.ensures)).few)

pub slice_bounds-marks-end : goal.slice_bounds-marks-end
slice_bounds-marks-end c = ((let a = c.args in direct_opened a.src.now a.offsets.now a.width a.height a.out.now (some a.map.now) c.in_default.ensures)).map_enough _ refl

pub slice_bounds-marks-end-2 : goal.slice_bounds-marks-end-2
slice_bounds-marks-end-2 c = sym (length-take-le _ _ ((((let a = c.args in direct_opened a.src.now a.offsets.now a.width a.height a.out.now (some a.map.now) c.in_default.ensures)).map_enough _ refl)))

pub slice_bounds-decode_frame-end : goal.slice_bounds-decode_frame-end
slice_bounds-decode_frame-end c = ((let a = c.args in direct_opened a.src.now a.offsets.now a.width a.height a.out.now (some a.map.now) c.in_default.ensures)).samples_enough

pub slice_bounds-decode_frame-end-2 : goal.slice_bounds-decode_frame-end-2
slice_bounds-decode_frame-end-2 c = sym (length-take-le _ _ ((((let a = c.args in direct_opened a.src.now a.offsets.now a.width a.height a.out.now (some a.map.now) c.in_default.ensures)).samples_enough)))

pub decode_frame-filler-requires : goal.decode_frame-filler-requires
decode_frame-filler-requires c =
    v0_lends ((let a = c.args in direct_opened a.src.now a.offsets.now a.width a.height a.out.now (some a.map.now) c.in_default.ensures)) direct_v0 _ (inl (ap length c.mark_old.ensures ∙ length-replicate _ 1 ∙ sym (sym (length-take-le _ _ ((((let a = c.args in direct_opened a.src.now a.offsets.now a.width a.height a.out.now (some a.map.now) c.in_default.ensures)).map_enough _ refl))))))

pub returns : goal.returns
unfolding frame_samples frame_marks stream_answer v0_map
returns c =
    let o = (let a = c.args in direct_opened a.src.now a.offsets.now a.width a.height a.out.now (some a.map.now) c.in_default.ensures) in
    let ones = c.mark_old.ensures ∙ ap (λ n. replicate n 1) (sym (sym (length-take-le _ _ ((((let a = c.args in direct_opened a.src.now a.offsets.now a.width a.height a.out.now (some a.map.now) c.in_default.ensures)).map_enough _ refl))))) in
    let d = c.decode_frame-filler.ensures in
    record {
      answered = passed_answer o (c.done_with.ensures ∙ ap done_with d.missing);
      samples = passed_samples o d.samples;
      map = passed_map o _ (d.marks ∙ ap (frame v0_marks _ _ _) ones);
      scratch = refl;
    }
