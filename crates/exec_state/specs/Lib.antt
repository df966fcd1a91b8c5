-- what is seen of values and states
pub mod Seen
-- reads and writes of what is seen
pub mod Access
-- expressions under guards
pub mod Follow
-- operands that are left of a list
pub mod Operands
-- statements under guards
pub mod Leave
