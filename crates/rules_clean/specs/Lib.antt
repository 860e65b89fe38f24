-- Clean frames: what is wrong with a V0 frame, and a call that takes only frames with which nothing is wrong.
pub mod Verdict
pub mod Clean
pub mod Examples
