-- How far a late fault reaches, with a worked example.
pub mod Late
pub mod Examples
