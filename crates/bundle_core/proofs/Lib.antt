pub mod MeaningLaws
pub mod OwnLaws
pub mod ListOrder
pub mod FanLaws
pub mod UserLaws
pub mod ProblemLaws
pub mod CostLaws
