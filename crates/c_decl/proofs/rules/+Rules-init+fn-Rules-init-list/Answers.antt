use Rattle.std.proofs.Common.{rules, sym, ap, ◌∙◌, arith}
use Rattle.c_reader.specs.Reading.{after, give}
use Rattle.c_reader.proofs.Failing.{fails_after, fails_as, gives_fault}
use Rattle.c_tree.specs.declared.statements.Initializer.TheVariants as init
use Rattle.c_decl.specs.Declarations.{read_init}
use Rattle.c_decl.proofs.Branching.{gives_as, no_level, braced, valued}
use Rattle.c_decl.proofs.rules.+Rules-init+fn-Rules-init-list.Goals as goal

pub returns-then-self-eq0 : goal.returns-then-self-eq0
returns-then-self-eq0 t c = let e = no_level c.args.self.size c.args.self.left c.args.cursor.now (omega arith) in ((λ h. absurd (cc)), (λ _. e))

pub returns-then-sees_mark : goal.returns-then-sees_mark
returns-then-sees_mark t c =
    let same = c.nested-nested.ensures in
    gives_as _ _ _ _ (braced _ _ _ _ _ (omega arith) (ap (λ r. r.size) same) (ap (λ r. r.left) same) (sym c.sees_mark.ensures ∙ c.if-sees_mark.true)) (c.list.ensures (read_init _ _) (record { reads = λ old new r p. search rules }))

pub returns-in_err-value : goal.returns-in_err-value
returns-in_err-value t c =
    gives_fault _ _ _ _ c.from_residual.ensures.1 (fails_as _ _ _ _ (valued _ _ _ (omega arith) (sym c.sees_mark.ensures ∙ c.if-sees_mark.false)) (fails_after _ (λ value. give (init.Expression value)) _ _ c.in_err-value.ensures))

pub returns : goal.returns
returns t c = valued _ _ _ (omega arith) (sym c.sees_mark.ensures ∙ c.if-sees_mark.false) ∙ ap (λ a. after a (λ value. give (init.Expression value))) c.in_ok-value.ensures
