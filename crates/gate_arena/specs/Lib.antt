pub mod Wiring
pub mod Paths
pub mod Values
pub mod Change
pub mod Order
pub mod Inside
pub mod Normal
pub mod Levels
