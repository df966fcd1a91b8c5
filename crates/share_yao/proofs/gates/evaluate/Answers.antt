use Rattle.std.proofs.Common.{◌∙◌, ap}
use Rattle.std.proofs.lemmas.List.{take_rest}
use Rattle.share_core.specs.Garbled.{label_of}
use Rattle.share_yao.proofs.Steps.{halves_of}
use Rattle.share_yao.proofs.gates.evaluate.Goals as goal

pub returns-clause-value : goal.returns-clause-value
returns-clause-value c =
    let second = c.read_label-evaluator.ensures.value ∙ ap label_of (take_rest c.args.rows.now 16) in
    c.joined_halves.ensures.value ∙ halves_of c.args.a c.args.b _ _ _ _ _ _ _ _ c.hash_left-left.ensures.value c.hash_right-right.ensures.value c.read_label-garbler.ensures.value second
