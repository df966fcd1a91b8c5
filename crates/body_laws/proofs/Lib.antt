-- what keeps a rule in each scope that a program may end with
pub mod Finals
-- bounds of loops
pub mod Bounds
-- loops
pub mod Loops
-- labels of a `switch`
pub mod Labelling
-- selections
pub mod Selections
-- blocks and other statements
pub mod Blocks
-- statements and blocks, by induction over their trees
pub mod Trees
-- jumps of statements
pub mod Jumps
