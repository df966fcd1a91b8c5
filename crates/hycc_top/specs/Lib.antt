pub mod Source
pub mod Input
pub mod Lines
pub mod Endings
pub mod Request
pub mod Inner
pub mod Shares
