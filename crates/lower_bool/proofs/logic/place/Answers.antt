use Rattle.std.proofs.Common.{not, ◌&&◌, ap, ◌∙◌, arith}
use Rattle.gate_net.specs.Meaning.{value}
use Rattle.gate_net.proofs.ListLaws.{equal_two}
use Rattle.gate_net.proofs.MeaningLaws.{level-complement, value-complement}
use Rattle.lower_bool.proofs.PlaceLaws.{or_by_and}
use Rattle.lower_bool.proofs.logic.place.Goals as goal

pub returns-in_ok-neither-in-Or-clause-value : goal.returns-in_ok-neither-in-Or-clause-value
returns-in_ok-neither-in-Or-clause-value c = λ xs.
    let n = c.args.net.now in
    let known = rw (c.complement.ensures, c.complement-in-Or.ensures) at (c.in_ok-neither-in-Or.ensures.value xs) in
    rw (c.in-Or.is, c.complement-in-Or-2.ensures) (
    value-complement c.and-in-Or.new.self xs c.in_ok-neither-in-Or.neither
    ∙ ap not (known ∙ equal_two (λ x y. x && y) (value-complement c.args.net.now xs c.args.x) (value-complement c.args.net.now xs c.args.y))
    ∙ or_by_and (value c.args.net.now xs c.args.x) (value c.args.net.now xs c.args.y)
    )

pub returns-in_ok-neither-in-Or-clause-level : goal.returns-in_ok-neither-in-Or-clause-level
returns-in_ok-neither-in-Or-clause-level c =
    let known = rw (c.complement.ensures, c.complement-in-Or.ensures) at c.in_ok-neither-in-Or.ensures.level in
    rw (c.in-Or.is, c.complement-in-Or-2.ensures)
    (omega (arith, known, level-complement c.and-in-Or.new.self c.in_ok-neither-in-Or.neither, level-complement c.args.net.now c.args.x, level-complement c.args.net.now c.args.y))
