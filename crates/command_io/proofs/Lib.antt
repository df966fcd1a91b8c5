pub mod Ending
mod Prints
