-- What the proofs of the entries rest on.
pub mod MovedLaws
pub mod EarlyLaws
pub mod WriterLaws
pub mod BlankLaws
pub mod ExportLaws
pub mod ExportedFrames
pub mod Moves
pub mod Examples
