pub mod Words
pub mod Literals
pub mod Spelled
pub mod Pieces
pub mod Places
pub mod Lengths
pub mod Good
