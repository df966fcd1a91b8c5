-- names that are bound, and the scopes in which they are
pub mod Scopes
pub mod Hiding
pub mod Bindings
