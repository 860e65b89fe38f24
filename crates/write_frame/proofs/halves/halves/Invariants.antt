-- The loop: the first k numbers have been found, in bounds by `half_in`.
use Rattle.write_frame.specs.Frames.{by_halves}
use Rattle.write_frame.proofs.HalfLaws.{Finding}
use Rattle.write_frame.proofs.halves.halves.Given as goal

abbrev pub invariant-loop-k : goal.invariant-loop-k
invariant-loop-k l = Finding (by_halves l.samples l.first l.second l.p l.q) l.d l.k
