-- words of inputs and constants
pub mod Lists
