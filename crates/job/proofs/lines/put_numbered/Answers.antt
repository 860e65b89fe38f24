-- Each call writes the next part of the line, and there is room for what is left.
use Rattle.job.proofs.WrittenLaws.{left_step, left_last, left_room, part_room}
use Rattle.job.proofs.TextLaws.{numbered_parts}
use Rattle.job.proofs.lines.put_numbered.Goals as goal

pub put_bytes-first-requires : goal.put_bytes-first-requires
put_bytes-first-requires c = part_room _ (numbered_parts _ c.args.word.now c.args.number) c.requires

pub put_digits-end-requires : goal.put_digits-end-requires
put_digits-end-requires c =
    part_room _ (left_step (numbered_parts _ c.args.word.now c.args.number) c.put_bytes-first.ensures) c.requires

pub put-requires : goal.put-requires
put-requires c =
    left_room (left_step (left_step (numbered_parts _ c.args.word.now c.args.number) c.put_bytes-first.ensures) c.put_digits-end.ensures) c.requires

pub returns : goal.returns
returns c =
    left_last (left_step (left_step (numbered_parts _ c.args.word.now c.args.number) c.put_bytes-first.ensures) c.put_digits-end.ensures) c.put.ensures
