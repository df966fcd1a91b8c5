-- the widths of the cells of types
pub mod Widths
