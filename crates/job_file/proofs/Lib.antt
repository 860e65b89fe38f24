-- What follows from the definition.
pub mod Whole
