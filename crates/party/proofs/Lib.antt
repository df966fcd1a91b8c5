mod Carried
mod Endings
mod LevelSteps
mod Listed
mod Senders
pub mod States
