-- lists, and names that stand after others
pub mod Lists
-- what a typed node takes
pub mod Nodes
-- what productions on typed parts take
pub mod Values
-- what is declared and marked, beside each other
pub mod Declaring
-- walks beside scans, one after another
pub mod Tracing
-- expressions
pub mod Walked
-- specifiers
pub mod Specifiers
-- expressions and specifiers, by induction over their trees
pub mod Sources
