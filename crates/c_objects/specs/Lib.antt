-- the values of initializers, and the objects that they fill
pub mod Initializers
-- declared objects
pub mod Objects
