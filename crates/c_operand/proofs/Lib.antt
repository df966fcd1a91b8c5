-- chains of operators
pub mod Chaining
