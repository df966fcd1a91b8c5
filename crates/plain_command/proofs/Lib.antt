mod Answering
pub mod Codes
mod Reading
