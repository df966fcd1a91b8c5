-- assignments, steps and calls
pub mod Effects
-- conditions, and steps of loops
pub mod Conditions
-- the same where more is declared
pub mod Lasting
