-- What is set, with what is left of the run, is the run.
use Prim.Native.Nat.{◌+◌, ◌*◌}
use Rattle.frame_blank.proofs.RowLaws.{Turned}
use Rattle.frame_blank.proofs.set_run.Given as goal

abbrev pub invariant-loop-k : goal.invariant-loop-k
invariant-loop-k l = Turned l.initial.samples l.from l.columns l.fill.first l.fill.second (l.from + l.columns) l.samples (l.from + 2 * l.k)
