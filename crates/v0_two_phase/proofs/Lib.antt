-- The steps are the two-phase decoder, also with both phases of a row before the next row's (`RowByRow`: `row_first`).
pub mod FrameLaws
pub mod LateRowLaws
pub mod RowByRow
