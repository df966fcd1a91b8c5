use Rattle.std.proofs.Common.{Bool, true, not, map, List, refl, sym, ap, ◌∙◌, arith}
use Rattle.std.proofs.lemmas.List.{length-map}
use Rattle.hy_bits.specs.Bits.{carry_out}
use Rattle.gate_net.specs.Meaning.{value}
use Rattle.gate_net.specs.Spelled.{values}
use Rattle.gate_net.proofs.ListLaws.{values-complements, AllStand-complements}
use Rattle.gate_net.proofs.MeaningLaws.{value-complement, value-true}
use Rattle.gate_net.specs.Literal.{complement_of}
use Rattle.hy_bits.proofs.BitLaws.{nat_lt-difference}
use Rattle.gate_net.proofs.MeaningLaws.{level-constant, level-complement}
use Rattle.gate_net.proofs.ListLaws.{AllWithin-complements}
use Rattle.adder_blocks.proofs.compare.less_u.Goals as goal

pub carry_of_sum-requires-clause-second : goal.carry_of_sum-requires-clause-second
carry_of_sum-requires-clause-second c = rw (c.deref.ensures.value, c.in_ok-complements.ensures) (AllStand-complements c.args.net.now c.args.b.now c.requires.second)

pub returns-clause-value : goal.returns-clause-value
returns-clause-value c = λ bits.
    let n = c.args.net.now in
    let known = rw (c.deref.ensures.value, c.in_ok-complements.ensures) at (c.in_ok-at_least.ensures.value bits) in
    rw c.complement.ensures (value-complement c.carry_of_sum.new.net bits c.in_ok-at_least.at_least)
    ∙ ap not (known
    ∙ ap (λ (s : Bool). carry_out s (values n bits c.args.a.now) (values n bits (map complement_of c.args.b.now))) (value-true n bits (record { code = 1 }) refl)
    ∙ ap (λ (ys : List Bool). carry_out true (values n bits c.args.a.now) ys) (values-complements n bits c.args.b.now))
    ∙ sym (nat_lt-difference (values n bits c.args.a.now) (values n bits c.args.b.now) (length-map c.args.a.now (value n bits) ∙ c.requires.same_length ∙ sym (length-map c.args.b.now (value n bits))))

pub returns-clause-depth : goal.returns-clause-depth
returns-clause-depth c = λ shallow d k small low high.
    let deep = c.in_ok-at_least.ensures.depth shallow d k small low
    (rw (c.deref.ensures.value, c.in_ok-complements.ensures) (AllWithin-complements c.args.net.now d c.args.b.now high))
    (omega (arith, level-constant c.args.net.now (record { code = 1 }) (omega arith))) in
    rw c.complement.ensures (omega (arith, deep, level-complement c.carry_of_sum.new.net c.in_ok-at_least.at_least))
