-- truth values and lists
pub mod Truths
pub mod Ending
pub mod Advancing
-- what it is that a reader reads a language, and the combinators
pub mod Reader
pub mod Giving
pub mod Taking
pub mod Spelt
pub mod Binding
pub mod Choosing
pub mod Beginning
pub mod Joining
pub mod Repeating
pub mod Listing
-- what an answer says of the trees that begin with some tokens
pub mod Shrinking
pub mod Probing
pub mod Nesting
-- what functions return that read
pub mod Tokening
pub mod Failing
pub mod Gathering
pub mod Separating
