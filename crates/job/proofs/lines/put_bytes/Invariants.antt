-- The loop's invariant: with the bytes from i on, the text is what it becomes with all of them.
use Prim.Native.Nat.{◌≤◌}
use lib.ListN.{length, drop}
use Rattle.job.specs.Written.{Left}
use Rattle.job.proofs.lines.put_bytes.Given as goal

abbrev pub invariant-loop-byte : goal.invariant-loop-byte
invariant-loop-byte l =
    (l.byte-index ≤ length l.bytes) × Left l.text l.at (drop l.byte-index l.bytes) l.initial.text l.initial.at l.bytes
