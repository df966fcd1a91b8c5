-- statements as a text spells them, and walks of them
pub mod Statements
-- jumps that may leave a statement
pub mod Jumping
