mod OwnerLaws
mod OwnLaws
pub mod SafeLaws
mod Drawing
