-- lists with one element more, and with one element put
pub mod Lists
-- types that specifiers name
pub mod Named
-- environments with more declared, which stay well formed
pub mod Declaring
-- members one after another
pub mod Filling
-- the integers and the shapes of types, and what objects begin with, where more is declared
pub mod Starting
-- structs that are complete
pub mod Closing
-- words of enumerators, and numbers of elements
pub mod Words
-- productions on walks of their parts
pub mod Bodies
