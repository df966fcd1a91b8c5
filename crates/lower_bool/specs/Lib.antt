pub mod Rows
pub mod Parts
pub mod Stated
pub mod Operations
pub mod Walk
