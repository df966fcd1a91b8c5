-- inputs as nodes, and lists of nodes while a graph grows
pub mod InputLaws
