-- functions and programs as a text spells them, and the rules that they keep
pub mod Programs
