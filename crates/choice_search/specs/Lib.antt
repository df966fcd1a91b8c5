pub mod Answers
pub mod Arenas
pub mod Searched
