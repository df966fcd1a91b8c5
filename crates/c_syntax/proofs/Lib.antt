-- the readers read their productions
pub mod Optionals
pub mod Heads
pub mod Itemising
pub mod Programming
-- they answer alike for all numbers of tokens, and what the code needs of them
pub mod Sizing
pub mod Reading
-- what they answer, in terms of the programs that begin with some tokens
pub mod First
pub mod Parsing
