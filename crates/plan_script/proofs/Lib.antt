pub mod ListLaws
pub mod BucketLaws
pub mod NumberLaws
