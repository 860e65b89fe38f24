-- The loop's invariant: with the rows from `row` on, the text is what it becomes with all of them. A row lies within the frame.
use Prim.Native.Nat.{◌-◌, ◌*◌, ◌≤◌}
use lib.ListN.{drop}
use Rattle.rules.specs.Job.{rows_text}
use Rattle.job.specs.Written.{Left}
use Rattle.job.proofs.lines.put_rows.Given as goal

abbrev pub invariant-loop-row : goal.invariant-loop-row
invariant-loop-row l =
    (l.row ≤ l.height) × Left l.text l.at (rows_text l.width (l.height - l.row) l.row (drop (l.row * l.width) l.samples) (drop (l.row * l.width) l.map)) l.initial.text l.initial.at (rows_text l.width l.height 0 l.samples l.map)
