pub mod CodeLaws
pub mod ModuleLaws
pub mod InputLaws
pub mod TakerLaws
pub mod OwnerLaws
