pub mod Choices
pub mod Problems
pub mod Bound
pub mod Least
pub mod Growing
pub mod Ahead
