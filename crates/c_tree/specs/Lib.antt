-- tokens and the pieces that trees want of them
pub mod Names
pub mod TokenLists
pub mod Pieces
-- the grammar, in the order of Annex A of C11
pub mod Operators
pub mod Expressions
pub mod TypeWords
pub mod Types
pub mod Declarations
pub mod Statements
pub mod Programs
-- the productions over whole trees
pub mod Folds
pub mod StatementFolds
-- what clients ask of trees
pub mod SpelledTypes
pub mod Brackets
