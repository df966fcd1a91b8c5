pub mod Aims
pub mod Boards
pub mod Accesses
pub mod Choices
pub mod Parts
