-- the rules of statements in the scope of a whole program
pub mod Final
