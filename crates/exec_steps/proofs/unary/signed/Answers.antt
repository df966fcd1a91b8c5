use Rattle.std.proofs.lemmas.Result.{IfOk-weaker}
use Rattle.c_meaning.specs.Operations.{signed_by, undefined_sign}
use Rattle.c_meaning.specs.State.{flagged_where}
use Rattle.c_meaning.specs.Expressions.{Gives, of_word, word_in}
use Rattle.exec_steps.proofs.StepLaws.{flagged_shows, turns_value}
use Rattle.exec_steps.proofs.unary.signed.Goals as goal

pub returns-clause-follows : goal.returns-clause-follows
returns-clause-follows c =
    IfOk-weaker c.sign_value.result _ _
    (λ r makes. turns_value c.args.region c.args.running.now c.sign_value.new.graph c.args.value.now c.requires.running c.sign_value.ensures.extends r (λ u s. Gives (of_word (signed_by c.args.sign c.args.scalar (word_in u))) (flagged_where (undefined_sign c.args.sign c.args.scalar (word_in u)) c.args._place s))
    (λ ins fit u t seen shows. (flagged_shows _ _ _ t shows, makes ins fit u seen)))
    c.sign_value.ensures.value
