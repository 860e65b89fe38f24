-- Each call writes the next part of the sample, and there is room for what is left.
use Rattle.job.proofs.WrittenLaws.{left_step, left_last, left_room, part_room}
use Rattle.job.proofs.TextLaws.{sample_parts, sample_marked, sample_plain}
use Rattle.job.proofs.lines.put_sample.Goals as goal

pub put-number-requires : goal.put-number-requires
put-number-requires c = part_room _ (sample_parts _ _ _ _) c.requires

pub put_digits-end-requires : goal.put_digits-end-requires
put_digits-end-requires c = part_room _ (left_step (sample_parts _ _ _ _) c.put-number.ensures) c.requires

pub put-requires : goal.put-requires
put-requires c = left_room (left_step (left_step (sample_marked _ _ _ _ c.if-mark-ne0.true) c.put-number.ensures) c.put_digits-end.ensures) c.requires

pub returns-then-mark-ne0 : goal.returns-then-mark-ne0
returns-then-mark-ne0 c = left_last (left_step (left_step (sample_marked _ _ _ _ c.if-mark-ne0.true) c.put-number.ensures) c.put_digits-end.ensures) c.put.ensures

pub returns : goal.returns
returns c = left_last (left_step (sample_plain _ _ _ _ c.if-mark-ne0.false) c.put-number.ensures) c.put_digits-end.ensures
