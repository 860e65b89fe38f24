pub mod Lengths
pub mod Block
pub mod PastEnd
