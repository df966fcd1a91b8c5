-- how far the cells that a pointer names can lie
pub mod Limits
-- what the values of the code stand for
pub mod Views
