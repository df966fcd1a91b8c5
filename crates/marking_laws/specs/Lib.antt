-- the objects whose addresses the parts of a typed statement take
pub mod Taking
-- what is declared between walks, and what functions mark
pub mod Marks
