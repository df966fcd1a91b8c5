-- parameters of functions, and the ports of `mpc_main`
pub mod Parameters
-- functions and programs
pub mod Programs
