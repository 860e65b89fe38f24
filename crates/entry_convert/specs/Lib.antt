pub mod Convert
pub mod ConvertExamples
