pub mod StretchLaws
pub mod SumLaws
