-- The loop's invariant: with the samples from i on, the text is what it becomes with all of them.
use Prim.Native.Nat.{◌≤◌}
use lib.ListN.{length, drop}
use Rattle.rules.specs.Job.{samples_text}
use Rattle.job.specs.Written.{Left}
use Rattle.job.proofs.lines.put_samples.Given as goal

abbrev pub invariant-loop-i : goal.invariant-loop-i
invariant-loop-i l =
    (l.i ≤ length l.samples) × Left l.text l.at (samples_text (drop l.i l.samples) (drop l.i l.map)) l.initial.text l.initial.at (samples_text l.samples l.map)
