pub mod ClapRules
pub mod ClapMatches
pub mod ClapParse
pub mod ClapWalk
pub mod RequestLaws
