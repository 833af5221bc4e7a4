pub mod Walk
pub mod Line
pub mod Edges
