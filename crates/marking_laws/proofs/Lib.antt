-- what a typed statement takes
pub mod Nodes
-- initializers and declared objects
pub mod Objects
-- statements and blocks
pub mod Statements
-- statements and blocks, by induction over their trees
pub mod Trees
-- functions
pub mod Functions
-- external declarations
pub mod Declared
