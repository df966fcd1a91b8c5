pub mod CopyLaws
pub mod RuleLaws
pub mod SweepLaws
