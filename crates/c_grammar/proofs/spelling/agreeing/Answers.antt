use Rattle.std.proofs.Common.{◌∙◌, sym, ap}
use Rattle.c_tree.specs.TypeWords.{agree}
use Rattle.c_grammar.proofs.Agreeing.{agreeing_none, agreeing_some}
use Rattle.c_grammar.proofs.spelling.agreeing.Goals as goal

pub returns-then-agree : goal.returns-then-agree
returns-then-agree c = agreeing_some _ _ _ _ c.in-Some.ensures (ap (λ k. agree k) (sym c.with_word.ensures) ∙ sym c.agree.ensures ∙ c.if-agree.true)

pub returns-else-agree : goal.returns-else-agree
returns-else-agree c = agreeing_some _ _ _ _ c.in-Some.ensures (ap (λ k. agree k) (sym c.with_word.ensures) ∙ sym c.agree.ensures ∙ c.if-agree.false)

pub returns-in-None : goal.returns-in-None
returns-in-None c = agreeing_none _ _ c.in-None.ensures
