-- Within the row the sample's prediction is added; past its end nothing is.
use Rattle.std.proofs.Common.{arith}
use Rattle.rules.specs.Phases.{sample_stage}
use Rattle.v0_phase2.proofs.PredictionLaws.{one_within, one_past}
use Rattle.v0_phase2.proofs.add_sample.Goals as goal

pub returns-then-col-c : goal.returns-then-col-c
returns-then-col-c c = search (one_within sample_stage, arith)

pub returns-else-col-c : goal.returns-else-col-c
returns-else-col-c c = search (one_past sample_stage, arith)
