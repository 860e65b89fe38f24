-- The decoder is asked and lent what the rules say, so that its answer, samples and marks are those of the rules' text.
use native.Mathlib.Omega.{arith}
use Rattle.job.proofs.WrittenLaws.{left_last, left_room}
use Rattle.job.proofs.AnswerLaws.{offsets_fit, answer_done, answer_refused}
use Rattle.job.proofs.put_answer.Goals as goal

pub slice_bounds-decode_v0_reference_map-end-2 : goal.slice_bounds-decode_v0_reference_map-end-2
slice_bounds-decode_v0_reference_map-end-2 c = offsets_fit _ _ _ c.requires.sound _ (omega arith)

pub put_frame-requires : goal.put_frame-requires
put_frame-requires c =
    record {
      height_in_bounds = (omega arith, omega arith);
      room = left_room (answer_done _ _ _ c.requires.sound _ c.read_offsets.ensures _ _ _ _ c.decode_v0_reference_map-answer.ensures (omega arith)) c.requires.room;
    }

pub returns-then-answer-eq0 : goal.returns-then-answer-eq0
returns-then-answer-eq0 c =
    left_last (answer_done _ _ _ c.requires.sound _ c.read_offsets.ensures _ _ _ _ c.decode_v0_reference_map-answer.ensures (omega arith)) c.put_frame.ensures

pub put_refused-requires : goal.put_refused-requires
put_refused-requires c =
    left_room (answer_refused _ _ _ c.requires.sound _ c.read_offsets.ensures _ _ _ _ c.decode_v0_reference_map-answer.ensures (omega arith)) c.requires.room

pub returns : goal.returns
returns c =
    left_last (answer_refused _ _ _ c.requires.sound _ c.read_offsets.ensures _ _ _ _ c.decode_v0_reference_map-answer.ensures (omega arith)) c.put_refused.ensures
