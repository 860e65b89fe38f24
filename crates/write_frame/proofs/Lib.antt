-- Laws that the proofs cite.
pub mod PlaceLaws
pub mod HalfLaws
pub mod ResidualLaws
pub mod DifferenceLaws
pub mod CodingLaws
pub mod RowLaws
pub mod FrameLaws
