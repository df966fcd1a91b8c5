-- scalar types, and the conversions between them
pub mod Scalars
-- types by the kinds of their values, and types that are the same
pub mod CTypes
-- what operands say of the types of both sides
pub mod Sides
-- types of pointers
pub mod Pointers
-- binary operators by what stands on both sides
pub mod Tables
-- what is assigned, by its conversion
pub mod Assigning
-- "?:" by what its operands are
pub mod Choices
-- signs, casts, and changes of a place
pub mod Changes
