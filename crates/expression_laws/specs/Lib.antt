-- walks that keep what is declared, and add to it
pub mod Keeping
