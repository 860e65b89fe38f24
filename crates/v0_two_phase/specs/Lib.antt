pub mod LateRow
pub mod ScratchLent
