pub mod OffsetsLent
pub mod Block
pub mod Row
pub mod Faults
pub mod Rows
pub mod Heads
