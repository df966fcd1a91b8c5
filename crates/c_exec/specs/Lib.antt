-- how large trees are
pub mod Weights
-- what expressions leave
pub mod Expressions
-- statements that keep the rules of types
pub mod Statements
