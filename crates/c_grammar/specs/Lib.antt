-- the readers of expressions and of the specifiers of types, by the first token at each place
pub mod Tokens
pub mod Expressions
pub mod Types
pub mod Levels
-- what they read
pub mod Spelled
-- what the code sees of the words of a type's spelling
pub mod Counting
pub mod CountsCode
