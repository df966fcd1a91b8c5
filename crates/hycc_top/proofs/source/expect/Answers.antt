use Rattle.std.proofs.Common.{sym, ◌∙◌, arith}
use Rattle.hycc_top.proofs.Terms.{expect_first}
use Rattle.hycc_top.proofs.source.expect.Goals as goal

pub returns-in-len1-up : goal.returns-in-len1-up
returns-in-len1-up c = expect_first c.args.text.now c.args.tokens.now c.token-item.result (omega arith) c.token-item.is (sym c.is.ensures ∙ c.if-is.true)
