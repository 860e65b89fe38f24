-- What follows from the definitions, and what the functions' proofs share.
pub mod ByteLaws
pub mod RunLaws
pub mod RowLaws
pub mod FrameLaws
pub mod EachSample
pub mod Nearest
pub mod Runs
pub mod Isolation
pub mod Returned
pub mod Examples
