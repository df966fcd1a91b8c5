mod Nothing
mod Steps
pub mod StreamLaws
