-- Phase one, block by block, in runs and row by row: what is left comes to the whole.
pub mod ResidualLaws
pub mod RunLaws
pub mod RowsLaws
