pub mod Operands
pub mod Lives
pub mod Slotting
pub mod Allocation
pub mod LastTouches
pub mod Renamed
pub mod Memory
