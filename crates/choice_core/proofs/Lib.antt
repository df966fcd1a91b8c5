pub mod Sums
mod Steps
pub mod Laws
pub mod Limits
mod Walks
mod Loops
mod Growth
pub mod Parts
mod Rises
mod Touched
mod Followed
