pub mod PlainOrder
pub mod Standing
pub mod Counting
pub mod Schedules
