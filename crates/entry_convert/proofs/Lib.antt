-- What the entries owe; that V0 into V2 is decoded back (`Converted`); and the claim on what others packed (`Proposed`).
pub mod ConvertLaws
pub mod Converted
pub mod ConvertExamples
pub mod ProposalLaws
pub mod Proposed
