-- nodes that stand while a graph grows
pub mod FixtureLaws
