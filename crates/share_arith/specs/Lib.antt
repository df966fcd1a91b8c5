pub mod Operations
pub mod Shares
pub mod Law
