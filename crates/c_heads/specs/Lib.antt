-- numbers of tokens
pub mod Tokens
-- the scopes of blocks
pub mod Scopes
-- expression statements
pub mod Effects
-- loops, their bounds and counters
pub mod Loops
-- the labels of a `switch`
pub mod Labels
