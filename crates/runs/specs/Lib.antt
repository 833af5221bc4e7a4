pub mod Runs
pub mod Ledger
pub mod Program
pub mod Theorems
