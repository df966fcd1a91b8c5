pub mod RingLaws
pub mod DepthLaws
pub mod PartLaws
pub mod ModuleLaws
