-- induction over typed trees by the parts of a node
pub mod Parts
-- the rules of a tree, and its type, by its node and its parts
pub mod Rules
-- types of structs that stand, and lists that grow
pub mod Standing
-- what is looked up in scopes that grow
pub mod Growth
-- what is typed stays so in scopes that grow
pub mod Kept
-- typed trees of typed parts
pub mod Making
-- places, and their values
pub mod Places
pub mod Valued
-- conversions of integers, and operators on one operand
pub mod Conversions
-- chains that grow at their end
pub mod Chains
-- operands on the left by their form, choices and calls
pub mod Forms
-- productions of operators on one operand
pub mod Unary
-- productions of subscripts, members and casts, and walks one after another
pub mod Postfix
-- environments with more declared, and names
pub mod Environments
-- the members of structs that fit
pub mod Structs
