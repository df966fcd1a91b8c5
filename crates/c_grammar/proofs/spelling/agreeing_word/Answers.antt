use Rattle.std.proofs.Common.{◌∙◌}
use Rattle.c_reader.proofs.Tokening.{taken_value, taken_exit, take_bad, sees_first, inner}
use Rattle.c_grammar.proofs.Agreeing.{agrees_only, agreed_fits, agreed_word, agreed, misses}
use Rattle.c_grammar.proofs.spelling.agreeing_word.Goals as goal

pub take-requires : goal.take-requires
take-requires c = inner _ (agrees_only _) _ _ _ _ c.peek-token.ensures (agreed_fits _ _ _ c.in-Some.ensures)

pub returns-in_err-take-in-Some-clause-reads : goal.returns-in_err-take-in-Some-clause-reads
returns-in_err-take-in-Some-clause-reads c = taken_exit _ _ _ _ _ _ _ _ _ _ c.peek-token.ensures (agreed_fits _ _ _ c.in-Some.ensures) c.from_residual.ensures.1 c.in_err-take-in-Some.ensures

pub returns-in_ok-take-in-Some-clause-reads : goal.returns-in_ok-take-in-Some-clause-reads
returns-in_ok-take-in-Some-clause-reads c =
    taken_value _ _ _ _ _ _ _ _ _ c.peek-token.ensures (agreed_fits _ _ _ c.in-Some.ensures) (agreed_word _ _ _ c.in-Some.ensures) c.in_ok-take-in-Some.ensures

pub returns-in_ok-take-in-Some-clause-agreed : goal.returns-in_ok-take-in-Some-clause-agreed
returns-in_ok-take-in-Some-clause-agreed c = agreed _ _ _ c.in-Some.ensures

pub returns-in-None-clause-reads : goal.returns-in-None-clause-reads
returns-in-None-clause-reads c =
    let e = take_bad _ _ _ _ (sees_first _ _ _ _ c.peek-token.ensures ∙ misses _ _ c.in-None.ensures) in
    ((λ _. e), (λ h. absurd (cc)))
