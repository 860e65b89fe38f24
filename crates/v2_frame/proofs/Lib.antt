-- What the proofs of a block and a frame rest on.
pub mod BlockLaws
pub mod FrameLaws
