-- sums and products that stand still
pub mod Saturation
-- sums over lists, one more at a time
pub mod Sums
-- productions by their parts
pub mod Laws
-- functions by their numbers
pub mod Functions
