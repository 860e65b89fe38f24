-- What follows from the job's definitions.
pub mod WrittenLaws
pub mod DecimalLaws
pub mod TextLaws
pub mod OffsetsLaws
pub mod SizeLaws
pub mod JobLaws
pub mod AnswerLaws
