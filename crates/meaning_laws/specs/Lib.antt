-- runs that pass the bound of a loop
pub mod Past
-- structs that are copied
pub mod Copies
