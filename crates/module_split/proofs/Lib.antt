pub mod ListLaws
pub mod HomeLaws
pub mod UseLaws
pub mod OrderLaws
pub mod CutLaws
pub mod PieceLaws
pub mod GroupLaws
pub mod ModuleLaws
