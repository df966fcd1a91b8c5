pub mod Script
pub mod Conversions
pub mod Gates
pub mod Levels
pub mod Buckets
