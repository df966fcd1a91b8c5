-- statuses and lines of faults
pub mod Faults
