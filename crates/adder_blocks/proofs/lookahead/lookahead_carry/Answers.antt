use Rattle.std.proofs.Common.{◌≡◌, false, length, sym, ap, ◌∙◌, arith}
use Rattle.std.proofs.lemmas.List.{length-map}
use Rattle.gate_net.specs.Meaning.{value}
use Rattle.gate_net.specs.Spelled.{values}
use Rattle.adder_blocks.proofs.CellLaws.{carry_after-out, xor-no_carry}
use Rattle.adder_blocks.proofs.lookahead.lookahead_carry.Goals as goal

pub returns-clause-value : goal.returns-clause-value
returns-clause-value c = λ bits.
    let n = c.args.net.now in
    let long : length c.deref.result.now ≡ length c.args.a.now = ap length c.deref.ensures.value ∙ c.in_ok-cells.ensures.same in
    let wide_a : length (values n bits c.args.a.now) ≡ length c.args.a.now = length-map c.args.a.now (value n bits) in
    let wide_b : length (values n bits c.args.b.now) ≡ length c.args.a.now = length-map c.args.b.now (value n bits) ∙ sym c.requires.same_length in
    sym (xor-no_carry (value c.joined.new.net bits c.in_ok-whole.whole.generate) (value c.joined.new.net bits c.in_ok-whole.whole.propagate))
    ∙ c.in_ok-whole.ensures.value bits false
    ∙ carry_after-out c.cells.new.net bits c.deref.result.now false (value n bits c.args.start) (values n bits c.args.a.now) (values n bits c.args.b.now)
    (rw c.deref.ensures.value (c.in_ok-cells.ensures.value bits false)) (long ∙ sym wide_a) (wide_a ∙ sym wide_b) (omega (arith, wide_a, c.requires.some))

pub returns-clause-level : goal.returns-clause-level
returns-clause-level c = λ d k small low high begin.
    let long : length c.deref.result.now ≡ length c.args.a.now = ap length c.deref.ensures.value ∙ c.in_ok-cells.ensures.same in
    let whole = c.in_ok-whole.ensures.level d k (omega (arith, long, small)) (rw c.deref.ensures.value (c.in_ok-cells.ensures.level d low high begin)) in
    omega (arith, whole.0)
