-- The tests' fault is told, and else the decoder's answer.
use mathlib.Core.Path.{sym, ap, ◌∙◌}
use native.Mathlib.Omega.{arith}
use Rattle.rules.specs.Job.{fault}
use Rattle.job.proofs.SizeLaws.{fault_room, answer_room}
use Rattle.job.proofs.JobLaws.{holds}
use Rattle.job.proofs.run.Goals as goal

pub put_answer-requires : goal.put_answer-requires
put_answer-requires c = record { sound = c.in-Ok.ensures.sound; room = answer_room _ _ _ _ c.in-Ok.ensures.sound (omega arith) }

pub returns-in-Ok : goal.returns-in-Ok
returns-in-Ok c = holds _ c.in-Ok.ensures.text (answer_room _ _ _ _ c.in-Ok.ensures.sound (omega arith)) c.put_answer.ensures

pub put_fault-requires : goal.put_fault-requires
put_fault-requires c = fault_room _ _ (omega arith)

pub returns-in-Err : goal.returns-in-Err
returns-in-Err c = holds _ (c.in-Err.ensures.text ∙ ap fault (sym c.number.ensures)) (fault_room _ _ (omega arith)) c.put_fault.ensures
