-- graphs that grow by calls of several regions
pub mod Growing
-- what values of words stand for
pub mod Views
-- what operations make of values
pub mod Makes
