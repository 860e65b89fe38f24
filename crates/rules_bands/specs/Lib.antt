-- Late rows cut into bands and blocks, phase two done block by block, and a call that does so.
pub mod Bands
pub mod Sequence
pub mod Call
pub mod Examples
