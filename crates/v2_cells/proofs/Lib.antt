-- What the proofs of base, samples and marks share.
pub mod BaseLaws
pub mod Fill
pub mod SampleLaws
