pub mod File
pub mod Leaf
pub mod Meaning
pub mod Names
pub mod Text
pub mod Walk
