-- What is left from block k on comes to the whole part.
use Rattle.rules.specs.Phases.{sample_stage}
use Rattle.v0_phase2.proofs.PredictionLaws.{Part}
use Rattle.v0_phase2.proofs.add_part.Given as goal

abbrev pub invariant-loop-k : goal.invariant-loop-k
invariant-loop-k l = Part sample_stage l.w l.row l.start l.from l.to l.dirs l.initial.out l.out l.k
