pub mod Source
pub mod Texts
pub mod Costs
