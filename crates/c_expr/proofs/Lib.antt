-- what is answered of a list, in terms of its longest run
pub mod Answering
pub mod Returning
