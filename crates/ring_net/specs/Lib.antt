pub mod Ring
pub mod Paths
pub mod Part
