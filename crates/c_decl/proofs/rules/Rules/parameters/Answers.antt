use Rattle.std.proofs.Common.{◌∙◌, sym}
use Rattle.c_decl.proofs.Branching.{gives_as, void_alone, void_first, typed_first}
use Rattle.c_decl.proofs.rules.Rules.parameters.Goals as goal
use Rattle.c_decl.proofs.rules.Rules.parameters.Goals.{in_default-via-in-Some+else-sees_mark-2, in_default-via-in_default}

pub returns-in-Some : goal.returns-in-Some
returns-in-Some c = void_alone _ _ _ _ _ (sym c.sees_mark.ensures ∙ c.if-sees_mark.false) c.in_ok-specs.ensures _ (sym c.in-Some.ensures) (sym c.if-sees_mark-2.ensures)

pub returns-in_default : goal.returns-in_default
returns-in_default c =
    elim c.in_default.branch [
      | in_default-via-in-Some+else-sees_mark-2 w ↦
          gives_as _ _ _ _ (void_first _ _ _ _ _ (sym c.sees_mark.ensures ∙ c.if-sees_mark.false) c.in_ok-specs.ensures _ (sym w.in-Some.ensures) (sym w.if-sees_mark-2.ensures)) c.parameters_of.ensures
      | in_default-via-in_default w ↦ gives_as _ _ _ _ (typed_first _ _ _ _ _ (sym c.sees_mark.ensures ∙ c.if-sees_mark.false) c.in_ok-specs.ensures (sym c.void_of.ensures ∙ w.in_default.is)) c.parameters_of.ensures
    ]
