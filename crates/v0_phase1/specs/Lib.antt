pub mod RowLent
pub mod Parsed
pub mod Ran
