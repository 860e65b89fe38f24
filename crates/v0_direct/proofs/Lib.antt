-- What is left of blocks and rows comes to the whole; a run is what the record would read; and a pair of rows that no later row reads
-- may be exchanged early (`FreedLaws`: `exchange_past`).
pub mod SampleLaws
pub mod InnerLaws
pub mod RowLaws
pub mod RunLaws
pub mod FreedLaws
pub mod FrameLaws
