-- what follows meanings while the graph grows
pub mod StepLaws
-- statements in order, and turns of loops
pub mod WayLaws
-- ways of two statements
pub mod GatherLaws
