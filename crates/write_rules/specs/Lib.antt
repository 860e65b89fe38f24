-- The V0 writer as definitions: the bytes that a frame becomes, what a call answers and leaves, and how bits are written word by
-- word.
pub mod Writer
pub mod V2Writer
pub mod Calls
pub mod Exchanged
pub mod Weight
pub mod Pending
pub mod WrittenFrames
pub mod V2Frames
