use Rattle.std.proofs.Common.{◌-◌, List, ◌++◌, length, refl, ap, ◌∙◌}
use Rattle.std.specs.Prelude.{replicate}
use Rattle.gate_net.specs.declared.literal.Lit.{Lit}
use Rattle.hy_bits.specs.Words.{bits}
use Rattle.lower_bool.proofs.OperationLaws.{if_ok}
use Rattle.lower_bool.proofs.PlaceLaws.{zero-answer}
use Rattle.lower_bool.proofs.wires.zero_extended.Goals as goal

pub returns-clause-answer : goal.returns-clause-answer
returns-clause-answer c =
    if_ok c.extended.result _ _ c.extended.ensures.items (λ r made.
    zero-answer c.args.call c.args.rows.now c.requires.words r.items c.requires.op (record { code = 0 }) refl
    (made ∙ ap (λ (l : List Lit). l ++ replicate (bits c.args.call.width - length l) (record { code = 0 })) c.get.ensures))
