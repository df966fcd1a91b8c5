-- lines of faults of words and files
pub mod Lines
-- files, read whole
pub mod Reading
-- the end of a command
pub mod Ends
