pub mod Term
pub mod Meaning
pub mod Shape
pub mod Folding
pub mod Size
pub mod Growth
pub mod Part
pub mod Answer
