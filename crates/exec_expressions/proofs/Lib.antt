-- operations on words as C's operations on integers
pub mod OperationLaws
-- a node that is an extension of one bit
pub mod EntryFacts
-- targets whose indices are moved
pub mod PointerSums
-- pointers moved as the meaning says
pub mod MeaningSums
