-- function values that read parts of specifiers
pub mod Nested
-- the longest run of tokens with which an expression begins
pub mod Runs
