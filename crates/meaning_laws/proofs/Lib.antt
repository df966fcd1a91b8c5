-- lists of statements that pass a bound, and outcomes
pub mod Pasts
-- cells that are read and written
pub mod Cells
