-- what a source spells
pub mod Front
