pub mod Pieces
pub mod Lists
pub mod Homes
pub mod Cut
pub mod Steps
pub mod Parts
pub mod Modules
