-- What the contracts of base, samples and marks say beside the rules.
pub mod Places
