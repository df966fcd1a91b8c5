use Rattle.std.proofs.Common.{◌≡◌, ℕ, Bool, ◌^◌, List, [], length, refl, sym, ap, ◌∙◌, arith}
use Rattle.std.proofs.lemmas.List.{length-map}
use Rattle.hy_bits.specs.Bits.{sum_bits}
use Rattle.gate_net.specs.declared.literal.Lit.{Lit}
use Rattle.gate_net.specs.Circuit.{Circuit}
use Rattle.gate_net.specs.Meaning.{value}
use Rattle.gate_net.specs.Spelled.{values}
use Rattle.gate_net.proofs.ListLaws.{length-from_values}
use Rattle.gate_net.proofs.MeaningLaws.{value-false}
use Rattle.hy_bits.specs.Bits.{number}
use Rattle.hy_bits.specs.Words.{word_add}
use Rattle.hy_bits.proofs.BitLaws.{number-sum, length-sum_bits}
use Rattle.gate_net.proofs.MeaningLaws.{level-constant}
use Rattle.adder_blocks.proofs.sums.sum.Goals as goal

equal_length : (n : Circuit) (bits : List Bool) (a b : List Lit) → length a ≡ length b → length (values n bits a) ≡ length (values n bits b)
equal_length n bits a b same = length-map a (value n bits) ∙ same ∙ sym (length-map b (value n bits))

pub returns-clause-same : goal.returns-clause-same
returns-clause-same c =
    let n = c.args.net.now in
    let known = c.in_ok-out.ensures.value [] in
    length-from_values c.add.new.net c.in_ok-out.out.items _ known
    ∙ length-sum_bits _ (values n [] c.args.a.now) (values n [] c.args.b.now) (equal_length n [] c.args.a.now (c.args.b.now) c.requires.same_length)
    ∙ length-map c.args.a.now (value n [])

pub returns-clause-value : goal.returns-clause-value
returns-clause-value c = λ bits.
    let n = c.args.net.now in
    let known = c.in_ok-out.ensures.value bits in
    ap number (known ∙ ap (λ (s : Bool). sum_bits s (values n bits c.args.a.now) (values n bits c.args.b.now)) (value-false n bits (record { code = 0 }) refl))
    ∙ number-sum (values n bits c.args.a.now) (values n bits c.args.b.now) (equal_length n bits c.args.a.now c.args.b.now c.requires.same_length)
    ∙ ap (λ (k : ℕ). word_add (2 ^ k) (number (values n bits c.args.a.now)) (number (values n bits c.args.b.now))) (length-map c.args.a.now (value n bits))

pub returns-clause-depth : goal.returns-clause-depth
returns-clause-depth c = λ shallow d k small low high. c.in_ok-out.ensures.depth shallow d k small low high (omega (arith, level-constant c.args.net.now (record { code = 0 }) (omega arith)))
