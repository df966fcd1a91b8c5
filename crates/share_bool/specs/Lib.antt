pub mod Operations
pub mod Law
