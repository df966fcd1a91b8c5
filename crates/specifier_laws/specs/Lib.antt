-- members, enumerators and counts of elements that are walked
pub mod Declared
