pub mod Figures
pub mod Walk
