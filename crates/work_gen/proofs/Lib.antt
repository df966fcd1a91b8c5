mod Fixed
pub mod Joins
