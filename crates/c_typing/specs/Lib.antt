-- a walk over a program's text: what it passes with, and where it breaks
pub mod Walks
-- values, and what they are to operators
pub mod Values
-- the rules of expressions, a production each
pub mod Expressions
-- the rules of specifiers, structs, enums and dimensions, a production each
pub mod Specifiers
