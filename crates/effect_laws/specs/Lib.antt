-- expression statements as a text spells them, and rules of what they are
pub mod Simple
