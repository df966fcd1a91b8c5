pub mod WordLaws
pub mod Meaning
pub mod Nets
pub mod Rings
pub mod Sizes
