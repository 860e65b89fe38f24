-- What the calls answer, and what they leave.
pub mod Moved
pub mod Export
pub mod Examples
