-- which tokens begin statements, declarations, labels and external declarations
pub mod Starts
-- the readers of statements, by the first token at each place
pub mod Statements
pub mod Loops
pub mod Blocks
pub mod Levels
-- what functions return that read parts which something follows
pub mod Parts
