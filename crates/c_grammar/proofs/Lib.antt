-- readers of one token, and of the words of a type
pub mod Tokening
pub mod Agreeing
-- what trees begin with, and what stops them
pub mod Suffixes
pub mod Starting
pub mod Typing
-- the readers read their productions: expressions
pub mod Literals
pub mod Primaries
pub mod Unaries
pub mod Chains
pub mod Wholes
-- the specifiers of types
pub mod Words
pub mod Dimensioning
pub mod Members
pub mod Enums
pub mod Tags
pub mod Specifying
-- all levels of nesting
pub mod Depths
pub mod Levels
pub mod Sizing
pub mod Oneness
