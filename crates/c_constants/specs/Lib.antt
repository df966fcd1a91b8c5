-- constants where the word of an object is known
pub mod Views
-- the number of turns that the head of a loop gives
pub mod Counted
