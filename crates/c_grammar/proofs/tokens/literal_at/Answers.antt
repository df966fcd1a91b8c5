use Rattle.std.proofs.Common.{is_some, ap, sym, ◌∙◌}
use Rattle.c_reader.proofs.Tokening.{taken_value, taken_exit, take_bad, sees_first, inner}
use Rattle.c_grammar.proofs.Tokening.{literal_at_is, literal_only}
use Rattle.c_grammar.proofs.tokens.literal_at.Goals as goal

pub take-requires : goal.take-requires
take-requires c = inner _ (literal_only) _ _ _ _ c.peek-token.ensures (ap is_some c.in-Some.ensures)

pub returns-in_err-take-in-Some : goal.returns-in_err-take-in-Some
returns-in_err-take-in-Some c = taken_exit _ _ _ _ _ _ _ _ _ _ c.peek-token.ensures (ap is_some c.in-Some.ensures) c.from_residual.ensures.1 c.in_err-take-in-Some.ensures

pub returns-in_ok-take-in-Some : goal.returns-in_ok-take-in-Some
returns-in_ok-take-in-Some c = taken_value _ _ _ _ _ _ _ _ _ c.peek-token.ensures (ap is_some c.in-Some.ensures) (literal_at_is _ _ (sym c.in-Some.ensures)) c.in_ok-take-in-Some.ensures

pub returns-in-None : goal.returns-in-None
returns-in-None c =
    let e = take_bad _ _ _ _ (sees_first _ _ _ _ c.peek-token.ensures ∙ ap is_some (sym c.in-None.ensures)) in
    ((λ _. e), (λ h. absurd (cc)))
