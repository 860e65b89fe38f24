use native.Mathlib.Omega.{arith}
use Rattle.v0_direct.proofs.SampleLaws.{sampling_begun, sampling_on, sampled}
use Rattle.v0_direct.proofs.sample.decode_samples.Goals as goal

pub loop-k-init : goal.loop-k-init
loop-k-init c = sampling_begun _ _ _ _ _ _ _ _

pub decode_sample-bits-requires : goal.decode_sample-bits-requires
decode_sample-bits-requires c = (c.requires, c.stream_column-c.ensures.1)

pub loop-k-preserved : goal.loop-k-preserved
loop-k-preserved c =
    let a = c.args in
    sampling_on _ a.at.size _ _ a.head _ _ _ _ _ _ _ _ _ _ _ (omega arith) c.stream_column-c.ensures.0 c.decode_sample-bits.ensures c.loop-k.invariant

pub returns : goal.returns
returns c =
    let a = c.args in
    let x = sampled _ a.at.size _ _ a.head _ _ _ _ _ _ _ (omega arith) c.loop-k.invariant in
    record { answered = x.0; samples = x.1.0; marks = x.1.1 }
