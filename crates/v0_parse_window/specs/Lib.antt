pub mod ByWindow
pub mod Run
