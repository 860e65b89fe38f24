-- Laws that the entries' proofs cite, the claim of all eight, that two-phase equals direct, in bands equals two-phase and
-- clean equals direct, that what a cut upload shows is final, and which numbers are answered.
pub mod EntryLaws
pub mod Opening
pub mod Isolation
pub mod TwoPhase
pub mod InBands
pub mod CleanFrames
pub mod CutUpload
pub mod Answered
