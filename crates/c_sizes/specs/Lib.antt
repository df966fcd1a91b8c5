-- sizes that stand still at 2^63
pub mod Totals
-- what is counted, and the sizes of parts
pub mod Views
