-- The loop's invariant: the offsets before `row` are the input's.
use mathlib.Core.Path.{◌≡◌}
use Prim.Native.Nat.{◌≤◌}
use lib.ListN.{length, take}
use Rattle.job.specs.Fields.{offsets_of}
use Rattle.job.proofs.input.read_offsets.Given as goal

abbrev pub invariant-loop-row : goal.invariant-loop-row
invariant-loop-row l =
    (l.row ≤ l.height) × (length l.offsets ≡ length l.initial.offsets) × (take l.row l.offsets ≡ offsets_of l.input l.row)
