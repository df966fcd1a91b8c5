-- what whole expressions and specifiers are, by the rules of their productions
pub mod Typing
