-- words of the types of expressions
pub mod Words
