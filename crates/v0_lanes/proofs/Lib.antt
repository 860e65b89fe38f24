pub mod BlockLaws
pub mod HeadLaws
pub mod LaneLaws
pub mod LengthLaws
pub mod OrderLaws
pub mod StoredLaws
pub mod TableLaws
