pub mod Block
pub mod Freed
pub mod FrameLent
pub mod Run
