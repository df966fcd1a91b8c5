pub mod Literal
pub mod Circuit
pub mod Meaning
pub mod Shape
pub mod Growth
pub mod Answer
pub mod Paths
pub mod Spelled
