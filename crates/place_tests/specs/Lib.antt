pub mod Fixtures
pub mod Boards
