pub mod Choices
pub mod Pointers
