-- What is left from sample k on comes to the whole block.
use Rattle.v0_direct.proofs.SampleLaws.{Sampling}
use Rattle.v0_direct.proofs.sample.decode_samples.Given as goal

abbrev pub invariant-loop-k : goal.invariant-loop-k
invariant-loop-k l = Sampling l.src l.at.size l.at.row l.at.col l.head l.initial.bits l.bits l.initial.out l.out l.initial.map l.map l.k
