-- how many tokens a part of a tree has
pub mod Counts
