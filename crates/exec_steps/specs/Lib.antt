-- a run that is executed, as words of a graph
pub mod Running
-- the ways to leave a statement
pub mod Ways
