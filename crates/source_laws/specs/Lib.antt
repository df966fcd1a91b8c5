-- source trees as the text spells them
pub mod Spelled
