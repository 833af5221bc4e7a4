pub mod Encoding
pub mod Outcomes
