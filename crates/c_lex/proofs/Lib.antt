pub mod Declarations
pub mod Faults
pub mod LineEnds
pub mod ReadSteps
pub mod Tables
pub mod TypeSteps
pub mod Wellness
