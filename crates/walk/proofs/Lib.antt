pub mod Walkable
pub mod Edges
pub mod Fronts
pub mod Marking
pub mod Keeping
