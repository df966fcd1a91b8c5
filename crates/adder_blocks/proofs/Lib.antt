pub mod BitSteps
pub mod TreeLaws
pub mod TopLaws
pub mod ShiftLaws
pub mod CellLaws
