-- conversions between scalar types
pub mod Scalars
-- types: which are the same, and how many cells they have
pub mod CTypes
-- what operators and assignments make of the types of their operands
pub mod Operators
