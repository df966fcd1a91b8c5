pub mod Safe
pub mod Runs
