-- Where the greatest byte is 0 nothing is marked; else what is listed and set so far, with the runs that are left at a column, are the
-- row's, and a run starts there.
use Prim.Native.Nat.{◌-◌, ◌<◌}
use mathlib.Core.Bool.{true}
use mathlib.Core.Path.{◌≡◌}
use lib.ListN.{length, get_or}
use Rattle.frame_blank.specs.Blanking.{marked, blank_row}
use Rattle.frame_blank.specs.MapLent.{meant}
use Rattle.frame_blank.proofs.RowLaws.{Filled, Listed}
use Rattle.frame_blank.proofs.blank_row.Given as goal

abbrev pub invariant-loop-col : goal.invariant-loop-col
invariant-loop-col l =
    Listed l.row l.map l.from l.initial.runs l.runs l.at l.col
    × (Filled (blank_row (meant l.fill) l.initial.samples l.map) l.initial.samples l.samples l.col × (l.col < length l.map → marked (get_or l.map l.col 0) ≡ true))

abbrev pub decreases-loop-col : goal.decreases-loop-col
decreases-loop-col l = length l.map - l.col
