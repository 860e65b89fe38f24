-- What follows from the definitions, and what the functions' proofs share.
pub mod Examples
pub mod Lists
pub mod Written
pub mod ColumnLaws
pub mod HalfLaws
pub mod FrameLaws
pub mod Undone
pub mod Kept
