-- What the contracts of a block and a frame say beside the rules.
pub mod Blocks
