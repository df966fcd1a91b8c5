mod Places
mod Paths
mod Moves
mod Views
pub mod Chains
