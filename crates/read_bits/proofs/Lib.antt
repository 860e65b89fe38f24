-- What the proofs of a read share: a read after a refill is one cut, and several fields of at most 32 bits together are one read.
pub mod RefilledLaws
pub mod WholeLaws
pub mod FourLaws
