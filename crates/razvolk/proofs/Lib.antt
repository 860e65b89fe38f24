-- All that is promised (`Promises`), the claims of the exports that it holds, and P3's at work.
pub mod Promises
pub mod Isolation
pub mod BlankedFrames
pub mod RoundTrip
pub mod Converted
pub mod ColourPlanes
pub mod Numbers
pub mod AtWork
