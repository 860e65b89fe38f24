-- The first test alone decides the text of a longer input.
use mathlib.Core.Path.{sym, ap}
use native.Mathlib.Omega.{arith}
use Rattle.rules.specs.Job.{fault}
use Rattle.job.proofs.SizeLaws.{fault_room}
use Rattle.job.proofs.JobLaws.{text_longer, holds}
use Rattle.job.proofs.run_longer.Goals as goal

pub put_fault-requires : goal.put_fault-requires
put_fault-requires c = fault_room _ _ (omega arith)

pub returns : goal.returns
returns c = record {
  text = holds _ (ap fault (sym c.number.ensures)) (fault_room _ _ (omega arith)) c.put_fault.ensures;
  every_input = λ s l. text_longer s l;
}
