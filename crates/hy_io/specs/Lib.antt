pub mod Outside
pub mod Disk
pub mod Tape
