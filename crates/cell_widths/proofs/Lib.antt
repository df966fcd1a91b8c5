-- as many widths as cells
pub mod CountLaws
-- one width after another
mod More
