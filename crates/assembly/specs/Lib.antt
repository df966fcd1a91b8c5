pub mod Outlines
pub mod Layers
pub mod Choosing
pub mod Assembled
