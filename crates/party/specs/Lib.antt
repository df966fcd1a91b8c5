pub mod Steps
pub mod Gates
pub mod Laws
