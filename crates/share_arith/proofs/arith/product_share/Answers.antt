use Rattle.std.proofs.Common.{◌*◌}
use Rattle.hy_bits.specs.Words.{modulus}
use Rattle.share_arith.proofs.Steps.{product_share_first, product_share_second}
use Rattle.share_arith.proofs.arith.product_share.Goals as goal

pub returns-in-P0-clause-value : goal.returns-in-P0-clause-value
returns-in-P0-clause-value c =
    rw c.in-P0.is (product_share_first (modulus c.args.w) (c.args.e * c.args.f) (c.args.f * c.args.dealt.a) (c.args.e * c.args.dealt.b) c.args.dealt.c c.product.result c.product-2.result c.sum-masked.result c.sum-share.result c.product.ensures.value c.product-2.ensures.value c.sum-masked.ensures.value c.sum-share.ensures.value)

pub returns-in-P1-clause-value : goal.returns-in-P1-clause-value
returns-in-P1-clause-value c =
    rw c.in-P1.is (product_share_second (modulus c.args.w) (c.args.e * c.args.f) (c.args.f * c.args.dealt.a) (c.args.e * c.args.dealt.b) c.args.dealt.c c.product-in-P1.result c.sum-share.result c.sum.result
    (product_share_first (modulus c.args.w) (c.args.e * c.args.f) (c.args.f * c.args.dealt.a) (c.args.e * c.args.dealt.b) c.args.dealt.c c.product.result c.product-2.result c.sum-masked.result c.sum-share.result c.product.ensures.value c.product-2.ensures.value c.sum-masked.ensures.value c.sum-share.ensures.value)
    c.product-in-P1.ensures.value c.sum.ensures.value)
