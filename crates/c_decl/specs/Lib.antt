pub mod Bare
pub mod Marks
pub mod Declarations
pub mod Parameters
pub mod ExpressionStatements
