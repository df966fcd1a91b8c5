-- what is left of lists
pub mod Lists
-- marks of lists
pub mod Marking
-- productions by their parts
pub mod Laws
