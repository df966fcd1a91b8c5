-- The laws of arithmetic shares that callers of `share`, `opened` and `add` need.
-- shares that are added share by share stand for the sum
pub use Rattle.share_core.proofs.ArithmeticLaws.{sum_opens}
