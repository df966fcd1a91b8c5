-- integers and types
pub mod Operations
pub mod Types
-- what a program means, in the order of Annex A of C11
pub mod State
pub mod Expressions
pub mod ExpressionFolds
pub mod Statements
pub mod StatementFolds
pub mod Programs
-- how large its runs are
pub mod Uses
pub mod Sizes
pub mod SizeFolds
-- the rules that it keeps
pub mod TypeRules
pub mod Constants
pub mod Counting
pub mod Rules
pub mod StatementRules
