pub mod BitLaws
mod BitSteps
pub mod Decimals
pub mod PortLaws
pub mod ShapeLaws
pub mod WordLaws
