pub mod Arena
pub mod Ring
pub mod Inside
