use Rattle.std.proofs.Common.{◌∙◌, sym}
use Rattle.c_decl.proofs.Branching.{gives_as, postfix_stepped, postfix_assigned, other_assigned}
use Rattle.c_decl.proofs.rules.Rules.simple_after.Goals as goal
use Rattle.c_decl.proofs.rules.Rules.simple_after.Goals.{else-is_postfix-via-then-is_postfix+else-sees_step, else-is_postfix-via-else-is_postfix}

pub returns-then-sees_step : goal.returns-then-sees_step
returns-then-sees_step c =
    gives_as _ _ _ _ (postfix_stepped _ _ _ _ (sym c.is_call.ensures ∙ c.if-is_call.false) (sym c.is_postfix.ensures ∙ c.if-is_postfix.true) (sym c.sees_step.ensures ∙ c.if-sees_step.true)) c.stepped.ensures

pub returns-else-is_postfix : goal.returns-else-is_postfix
returns-else-is_postfix c =
    elim c.else-is_postfix.branch [
      | else-is_postfix-via-then-is_postfix+else-sees_step w ↦
          gives_as _ _ _ _ (postfix_assigned _ _ _ _ (sym c.is_call.ensures ∙ c.if-is_call.false) (sym c.is_postfix.ensures ∙ w.if-is_postfix.true) (sym w.sees_step.ensures ∙ w.if-sees_step.false)) c.assigned.ensures
      | else-is_postfix-via-else-is_postfix w ↦ gives_as _ _ _ _ (other_assigned _ _ _ _ (sym c.is_call.ensures ∙ c.if-is_call.false) (sym c.is_postfix.ensures ∙ w.if-is_postfix.false)) c.assigned.ensures
    ]
