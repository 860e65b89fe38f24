use Rattle.std.proofs.Common.{arith, rules}
use Rattle.v0_phase2.proofs.PredictionLaws.{predicting_begun, predicting_on, predicting_done, row_kept}
use Rattle.v0_phase2.proofs.add_edge.Goals as goal

pub loop-k-init : goal.loop-k-init
loop-k-init c = predicting_begun _ _ _ _ _ _

pub add_sample-requires : goal.add_sample-requires
add_sample-requires c = (row_kept _ c.requires.0 c.loop-k.invariant.same_length, (c.requires.1, c.stream_column-c.ensures.1))

pub loop-k-preserved : goal.loop-k-preserved
loop-k-preserved c = predicting_on _ _ _ _ _ _ _ _ _ _ (search rules) c.add_sample.auto.out c.stream_column-c.ensures.0 c.add_sample.ensures c.loop-k.invariant

pub returns : goal.returns
returns c = predicting_done _ _ _ _ _ _ _ _ (omega arith) c.loop-k.invariant
