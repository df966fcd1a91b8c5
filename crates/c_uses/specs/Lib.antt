-- the object that an lvalue names
pub mod Names
-- which objects are marked
pub mod Marks
