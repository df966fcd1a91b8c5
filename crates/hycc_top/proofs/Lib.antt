pub mod Sums
pub mod Terms
pub mod Inputs
pub mod Runs
pub mod Requests
