pub mod Gates
pub mod Levels
pub mod Kept
