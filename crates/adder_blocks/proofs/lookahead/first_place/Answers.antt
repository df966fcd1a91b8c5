use Rattle.std.proofs.Common.{◌&&◌, refl, ◌∙◌, arith}
use Rattle.hy_bits.specs.Bits.{xor, next_carry}
use Rattle.gate_net.specs.Meaning.{value}
use Rattle.gate_net.proofs.ListLaws.{equal_two}
use Rattle.gate_net.proofs.MeaningLaws.{value-false, level-constant}
use Rattle.adder_blocks.proofs.CellLaws.{xor-closed}
use Rattle.adder_blocks.proofs.lookahead.first_place.Goals as goal

pub returns-clause-value : goal.returns-clause-value
returns-clause-value c = λ bits s.
    let n = c.args.net.now in
    equal_two xor (c.in_ok-generate.ensures.value bits) (equal_two (λ y z. y && z) (value-false c.majority.new.net bits (record { code = 0 }) refl) refl)
    ∙ xor-closed (next_carry (value n bits c.args.a) (value n bits c.args.b) (value n bits c.args.start)) s

pub returns-clause-level : goal.returns-clause-level
returns-clause-level c = λ d first second third. (
  omega (arith, c.in_ok-generate.ensures.level d first second third),
  omega (arith, level-constant c.majority.new.net (record { code = 0 }) (omega arith)),
)
