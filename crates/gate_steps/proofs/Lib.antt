pub mod ConeLaws
pub mod StepLaws
