-- parts of typed trees
pub mod Parts
-- typed trees, and the types of values
pub mod Typed
-- values and truths that follow, after one more step
pub mod Steps
-- operands that are left
pub mod Operands
-- blocks and their items
pub mod Blocks
