use Rattle.std.proofs.Common.{ap, ◌∷◌, []}
use Rattle.c_meaning.specs.declared.values.Cell.TheVariants as cell
use Rattle.exec_values.specs.declared.values.WordValue.TheVariants as value
use Rattle.exec_steps.proofs.StepLaws.{turns_back}
use Rattle.exec_steps.proofs.truths.truth_value.Goals as goal

pub returns-clause-follows : goal.returns-clause-follows
returns-clause-follows c =
    turns_back c.args.region c.args.running.now c.of_truth.new.graph c.requires.running c.in_ok-word.ensures.extends c.args.truth (value.Word c.in_ok-word.word)
    (λ ins fit. ap (λ n. cell.Int n ∷ []) (c.in_ok-word.ensures.value ins fit))
