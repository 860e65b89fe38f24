-- What the proofs share: filler over a block's bytes, the parts of two bytes, and the greatest of a list.
pub mod MapLaws
pub mod GreatestLaws
