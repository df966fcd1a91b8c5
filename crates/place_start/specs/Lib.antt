-- the objects of a program at the begin of `mpc_main`
pub mod Starts
-- what the steps that make them ask for and leave
pub mod Begins
