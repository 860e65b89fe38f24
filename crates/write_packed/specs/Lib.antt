-- Packed by an outside optimiser: the verdict on a proposal, and what the scratch then holds.
pub mod Proposal
pub mod Cases
