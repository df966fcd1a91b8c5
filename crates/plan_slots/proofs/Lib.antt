pub mod LifeLaws
pub mod AllocationLaws
pub mod LastLaws
pub mod OperandLaws
pub mod MemoryLaws
