-- statements and blocks as whole trees
pub mod Statements
