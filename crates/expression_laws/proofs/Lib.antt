-- walks one after another, and where they break
pub mod Steps
-- binary operators, choices and what is assigned
pub mod Joined
-- environments with more declared
pub mod Weakened
-- calls
pub mod Calls
-- productions on walks of their parts
pub mod Walked
