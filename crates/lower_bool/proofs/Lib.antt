pub mod RowLaws
pub mod OperationLaws
pub mod PlaceLaws
pub mod WalkLaws
pub mod PartLaws
