pub mod Bits
pub mod Decimal
pub mod Op
pub mod Scalar
pub mod Words
pub mod Shape
pub mod Ports
pub mod Sizes
