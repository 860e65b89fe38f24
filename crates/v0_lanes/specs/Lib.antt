pub mod Blocks
pub mod Lanes
pub mod Lengths
pub mod Tables
