-- how large trees are
pub mod Weights
-- what answers, arguments and turns stand for
pub mod Views
