pub mod Blocks
pub mod Filling
pub mod Gathering
pub mod Showing
