-- What follows from the definitions: offset tables that agree at first, streams that agree at first, what V2's first bytes tell, and the
-- claim of calls.
pub mod Offsets
pub mod Trail
pub mod V2Trail
pub mod Stream
pub mod Calls
pub mod FirstBytes
pub mod LateFault
pub mod Examples
