-- source expressions and specifiers, by induction over their trees
pub mod Sources
