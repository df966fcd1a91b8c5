mod NetLaws
pub mod CircuitLaws
