-- parameters
pub mod Parameters
-- functions
pub mod Functions
-- other external declarations
pub mod Externals
-- programs
pub mod Whole
