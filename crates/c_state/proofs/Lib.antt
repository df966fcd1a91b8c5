-- objects that are changed, and cells that are read and written
pub mod Objects
