-- function values that read what is nested
pub mod Nested
