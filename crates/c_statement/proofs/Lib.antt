-- readers of trees of which each has its own condition on what may stand after it
pub mod ByTree
pub mod Steps
-- the readers read their productions
pub mod Conditions
pub mod Singles
pub mod Within
pub mod Leading
pub mod Ends
pub mod Ifs
pub mod Switches
pub mod Whiles
pub mod Fors
pub mod Blocking
pub mod Stating
-- they answer alike for all numbers of tokens, and what the code needs of them
pub mod Sizing
pub mod Reading
