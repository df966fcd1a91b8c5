-- scopes that grow at the end, and types of structs that stand
pub mod Scopes
-- typed values and places
pub mod Values
-- walks that pass with what keeps a rule
pub mod Passing
-- environments: what holds of each, and those with more declared
pub mod Environments
