-- what is left of lists, one more at a time
pub mod Folding
-- turns, one more at a time
pub mod Turns
