pub mod ModLaws
pub mod RowLaws
