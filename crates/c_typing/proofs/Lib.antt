-- walks that break, and lists of walks
pub mod WalkLaws
-- the arguments of calls
mod ArgumentLaws
-- array types
mod ArrayLaws
