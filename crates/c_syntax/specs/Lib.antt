-- the readers of external declarations and of programs, by the first token at each place
pub mod Items
-- which tokens a program is, and what `parse` says of a list
pub mod Programs
pub mod Outcome
