pub mod Bools
mod Endless
pub mod Goodness
pub mod Longest
pub mod Scanning
pub mod Standing
pub mod Values
