-- A head, residuals and runs by position are those that the record reads.
pub mod ChosenLaws
pub mod GroupLaws
pub mod RunLaws
pub mod WindowHeadLaws
