-- counts of productions by those of their parts
pub mod Counting
