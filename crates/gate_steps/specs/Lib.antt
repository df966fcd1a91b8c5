pub mod Cones
pub mod Steps
