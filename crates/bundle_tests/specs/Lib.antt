pub mod Bundles
pub mod Conjunction
pub mod Passed
pub mod Sharings
