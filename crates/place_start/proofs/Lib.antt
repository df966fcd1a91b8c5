-- objects, and parameters that get their words
pub mod StepLaws
-- what the rules of types say of objects and parameters
pub mod TypedLaws
-- no more inputs than cells
pub mod DistinctLaws
