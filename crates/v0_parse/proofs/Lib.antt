-- A block's head, the order of its samples, its residuals, and a block past the end.
pub mod OrderLaws
pub mod HeadLaws
pub mod BlockLaws
pub mod PastLaws
