mod Extras
pub mod Fitting
mod Floats
mod Induction
pub mod Laws
mod Leaves
pub mod Making
mod Members
pub mod Numbers
mod Readings
mod Sets
