-- Each call writes the next part of the line, and there is room for what is left.
use Rattle.job.proofs.WrittenLaws.{left_step, left_last, left_room, part_room}
use Rattle.job.proofs.TextLaws.{row_parts}
use Rattle.job.proofs.lines.put_row.Goals as goal

pub put_digits-colon-requires : goal.put_digits-colon-requires
put_digits-colon-requires c = part_room _ (row_parts _ _ _ _ _) c.requires.room

pub put-first-requires : goal.put-first-requires
put-first-requires c = part_room _ (left_step (row_parts _ _ _ _ _) c.put_digits-colon.ensures) c.requires.room

pub put_samples-end-requires : goal.put_samples-end-requires
put_samples-end-requires c =
    record {
      map_len = c.requires.map_len;
      room = part_room _ (left_step (left_step (row_parts _ _ _ _ _) c.put_digits-colon.ensures) c.put-first.ensures) c.requires.room;
    }

pub put-requires : goal.put-requires
put-requires c =
    left_room (left_step (left_step (left_step (row_parts _ _ _ _ _) c.put_digits-colon.ensures) c.put-first.ensures) c.put_samples-end.ensures) c.requires.room

pub returns : goal.returns
returns c = left_last (left_step (left_step (left_step (row_parts _ _ _ _ _) c.put_digits-colon.ensures) c.put-first.ensures) c.put_samples-end.ensures) c.put.ensures
