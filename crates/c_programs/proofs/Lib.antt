-- how a program's typing ends
pub mod Endings
