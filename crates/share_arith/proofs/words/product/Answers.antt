use Rattle.std.proofs.Common.{◌∙◌}
use Rattle.hy_bits.specs.Words.{modulus}
use Rattle.share_arith.proofs.Steps.{product_of_words}
use Rattle.share_arith.proofs.words.product.Goals as goal

pub returns-clause-value : goal.returns-clause-value
returns-clause-value c = c.mul.ensures.value ∙ product_of_words (modulus c.args.w) c.truncate.result c.truncate-2.result c.args.x c.args.y c.truncate.ensures.value c.truncate-2.ensures.value
