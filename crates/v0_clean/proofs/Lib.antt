-- What is left of a frame has its verdict, and residuals may be passed over unread.
pub mod PassLaws
pub mod BlockLaws
pub mod RowLaws
pub mod HeadsLaws
pub mod FrameLaws
