-- the line of a run
pub mod Lines
-- how the command ends
pub mod Endings
