-- operations give words of their types
pub mod Bounds
-- constants of typed expressions
pub mod Typed
