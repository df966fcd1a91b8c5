pub mod Commands
pub mod Parser
pub mod Readings
pub mod Request
pub mod Words
