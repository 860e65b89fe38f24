-- What the contracts of the job's functions cite.
pub mod Fields
pub mod Faults
pub mod Written
