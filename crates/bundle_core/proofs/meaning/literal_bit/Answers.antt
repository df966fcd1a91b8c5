use Rattle.std.proofs.Common.{◌≡◌, ◌∷◌, ◌%◌, false, not, sym, ap, ◌∙◌, arith, rules}
use Rattle.gate_net.specs.Meaning.{as_bits}
use Rattle.gate_net.proofs.MeaningLaws.{reading-even, reading-odd}
use Rattle.bundle_core.proofs.meaning.literal_bit.Goals as goal

pub returns-then-is_complement : goal.returns-then-is_complement
returns-then-is_complement c =
    let odd : c.args.l.code % 2 ≡ 1 = search rules in
    ap not c.wire_bit-bit.ensures ∙ sym (reading-odd as_bits (false ∷ c.args.variables.now) c.args.l odd)

pub returns-else-is_complement : goal.returns-else-is_complement
returns-else-is_complement c =
    let even : c.args.l.code % 2 ≡ 0 = grind arith in
    c.wire_bit-bit.ensures ∙ sym (reading-even as_bits (false ∷ c.args.variables.now) c.args.l even)
