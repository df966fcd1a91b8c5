pub mod Lists
pub mod Later
pub mod Prefixes
pub mod Upward
pub mod Starts
pub mod Longer
pub mod Splits
pub mod Walks
pub mod Opens
pub mod Exists
mod Few
