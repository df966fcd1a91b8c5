-- the integers of structs and arrays, part by part
pub mod Prefixes
-- parts one after another
pub mod Composing
-- values as parts
pub mod Single
-- lists of initializers
pub mod Lists
-- whole initializers
pub mod Initial
-- types of objects with few cells
pub mod Shaped
-- objects that are new, and the words that they begin with
pub mod New
-- declarators and declarations
pub mod Declarations
