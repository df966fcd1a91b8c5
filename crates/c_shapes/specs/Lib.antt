-- the shapes of structs
pub mod Structs
