use Rattle.std.proofs.Common.{sym, ap, ◌∙◌}
use Rattle.std.proofs.lemmas.Result.{IfOk-weaker}
use Rattle.hy_bits.specs.Bits.{bit}
use Rattle.c_meaning.specs.Expressions.{Gives, holds}
use Rattle.exec_values.proofs.ValueLaws.{holds_shown}
use Rattle.exec_steps.proofs.StepLaws.{turns_truth}
use Rattle.exec_steps.proofs.unary.tested.Goals as goal

pub returns-clause-follows : goal.returns-clause-follows
returns-clause-follows c =
    IfOk-weaker c.truth_of.result _ _
    (λ r makes. turns_truth c.args.region c.args.running.now c.truth_of.new.graph c.args.value.now c.requires.running c.truth_of.ensures.extends r (λ u s. Gives (holds u) s)
    (λ ins fit u t seen shows. (shows, makes ins fit ∙ ap bit (sym (holds_shown _ u seen)))))
    c.truth_of.ensures.value
