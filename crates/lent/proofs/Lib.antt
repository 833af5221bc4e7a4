pub mod Untouched
pub mod Tight
