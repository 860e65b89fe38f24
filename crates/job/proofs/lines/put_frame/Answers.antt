-- The line "done" and the rows are the two parts.
use Rattle.job.proofs.WrittenLaws.{left_start, left_step, left_last}
use Rattle.job.proofs.lines.put_frame.Goals as goal

pub returns : goal.returns
returns c = left_last (left_step (left_start _ _ _) c.put_bytes-first.ensures) c.put_rows.ensures
