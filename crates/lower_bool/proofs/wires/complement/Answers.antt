use Rattle.std.proofs.Common.{map, ap, ◌∙◌}
use Rattle.gate_net.specs.Literal.{complement_of}
use Rattle.lower_bool.proofs.PlaceLaws.{not-answer}
use Rattle.lower_bool.proofs.wires.complement.Goals as goal

pub returns-clause-answer : goal.returns-clause-answer
returns-clause-answer c =
    not-answer c.args.call c.args.rows.now c.requires.words c.in_ok-complements.field-0.items c.requires.op (c.in_ok-complements.ensures ∙ ap (map complement_of) c.get.ensures)
