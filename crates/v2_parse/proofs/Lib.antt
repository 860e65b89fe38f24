-- What the proofs of the stages share.
pub mod HeaderLaws
pub mod LengthLaws
