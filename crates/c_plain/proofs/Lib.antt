-- the arguments of calls, and the sections of a `switch`
pub mod Arguments
-- the functions that are called by their numbers
pub mod Calling
-- what is left of lists, and that it weighs less
pub mod Running
pub mod Weighing
