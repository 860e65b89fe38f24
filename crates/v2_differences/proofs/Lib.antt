-- Differences one after another, by pairs and by windows, and the table of positions.
pub mod DifferenceLaws
pub mod FourLaws
pub mod PairLaws
pub mod PositionLaws
