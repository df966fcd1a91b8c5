-- tokens, and readers of them
pub mod Tokens
pub mod Reading
pub mod Lists
pub mod Depths
-- what functions return that read
pub mod Ahead
pub mod Outcome
pub mod Closures
pub mod Nested
-- faults
pub mod Samples
pub mod Faults
pub mod Alone
pub mod Firsts
