-- What follows from the definitions: every good list leaves what phase two leaves, the good lists are those that do each block
-- once, always ready; and the laws of the list's check.
pub mod ACut
pub mod Finished
pub mod Counters
pub mod AnySequence
pub mod Sequences
pub mod CheckLaws
pub mod Calls
pub mod Lists
pub mod Examples
