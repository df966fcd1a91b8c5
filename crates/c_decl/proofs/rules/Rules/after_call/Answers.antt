use Rattle.std.proofs.Common.{◌∙◌, sym}
use Rattle.c_decl.proofs.Branching.{gives_as, call_assigned, call_stepped, call_alone}
use Rattle.c_decl.proofs.rules.Rules.after_call.Goals as goal

pub returns-then-sees_assign : goal.returns-then-sees_assign
returns-then-sees_assign c = gives_as _ _ _ _ (call_assigned _ _ _ _ c.requires (sym c.sees_assign.ensures ∙ c.if-sees_assign.true)) c.assigned.ensures

pub returns-then-sees_step : goal.returns-then-sees_step
returns-then-sees_step c =
    gives_as _ _ _ _ (call_stepped _ _ _ _ c.requires (sym c.sees_assign.ensures ∙ c.if-sees_assign.false) (sym c.sees_step.ensures ∙ c.if-sees_step.true)) c.stepped.ensures

pub returns-else-sees_step : goal.returns-else-sees_step
returns-else-sees_step c = call_alone _ _ _ _ c.requires (sym c.sees_assign.ensures ∙ c.if-sees_assign.false) (sym c.sees_step.ensures ∙ c.if-sees_step.false)
