-- What is left from sample k of the stream on comes to the whole block.
use Rattle.rules.specs.Phases.{sample_stage}
use Rattle.v0_phase2.proofs.PredictionLaws.{Predicting}
use Rattle.v0_phase2.proofs.add_edge.Given as goal

abbrev pub invariant-loop-k : goal.invariant-loop-k
invariant-loop-k l = Predicting sample_stage l.w l.row l.col l.up l.initial.out l.out l.k
