use Rattle.std.proofs.Common.{◌<◌, Bool, false, List, length, get_or, sym, ◌∙◌, arith}
use Rattle.std.proofs.lemmas.List.{length-map}
use Rattle.hy_bits.specs.Bits.{next_carry}
use Rattle.gate_net.specs.Meaning.{value}
use Rattle.gate_net.proofs.GrowthLaws.{Grows-value, Grows-then}
use Rattle.gate_net.specs.Spelled.{values}
use Rattle.gate_net.proofs.ListLaws.{equal_three, get_or-values}
use Rattle.adder_blocks.proofs.BitSteps.{carry_out-more}
use Rattle.adder_blocks.proofs.compare.carry_chain.Goals as goal

pub loop-place-preserved : goal.loop-place-preserved
loop-place-preserved c =
    let p = c.loop-place.invariant.0 in
    let n = c.args.net.now in
    let i = c.loop-place.place in
    let at_a : c.loop-place.place < length c.args.a.now = c.loop-place-test.true in
    let at_b : c.loop-place.place < length c.args.b.now = omega (arith, c.requires.same_length) in
    let first = λ (bits : List Bool). Grows-value p bits (get_or c.args.a.now c.loop-place.place (record { code = 0 })) (c.requires.first c.loop-place.place (record { code = 0 }) at_a) ∙ sym (get_or-values c.args.net.now bits c.args.a.now c.loop-place.place (record { code = 0 }) false at_a) in
    let second = λ (bits : List Bool). Grows-value p bits (get_or c.args.b.now c.loop-place.place (record { code = 0 })) (c.requires.second c.loop-place.place (record { code = 0 }) at_b) ∙ sym (get_or-values c.args.net.now bits c.args.b.now c.loop-place.place (record { code = 0 }) false at_b) in (
      Grows-then p c.in_ok-carry.ensures.grows (omega arith) (omega arith),
      c.in_ok-carry.ensures.stands,
      λ bits. c.in_ok-carry.ensures.value bits
          ∙ equal_three next_carry (first bits) (second bits) (c.loop-place.invariant.2 bits)
          ∙ sym (carry_out-more (value n bits c.args.start) (values n bits c.args.a.now) (values n bits c.args.b.now) i false (omega (arith, length-map c.args.a.now (value n bits))) (omega (arith, length-map c.args.b.now (value n bits)))),
    )
