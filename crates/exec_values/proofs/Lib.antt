-- graphs that grow
pub mod GrowingLaws
-- values that words stand for
pub mod ValueLaws
