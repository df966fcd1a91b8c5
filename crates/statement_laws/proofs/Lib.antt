-- the scopes of blocks
pub mod Scoping
-- declarators where more is declared
pub mod Lasting
-- statements that are made of parts
pub mod Nodes
-- what the step of a loop changes
pub mod Steps
-- loops that count
pub mod Counters
