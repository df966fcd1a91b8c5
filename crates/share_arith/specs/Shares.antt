-- Arithmetic shares (ABY, NDSS 2015, section III.A).
-- two shares stand for the word that they add up to
pub use Rattle.share_core.specs.Arithmetic.{StandFor}
