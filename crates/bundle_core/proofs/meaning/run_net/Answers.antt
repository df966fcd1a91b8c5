use Rattle.std.proofs.Common.{length, sym, ap, ◌∙◌}
use Rattle.bundle_core.proofs.MeaningLaws.{length-bits}
use Rattle.bundle_core.proofs.meaning.run_net.Goals as goal

pub net_bits-requires-clause-bits : goal.net_bits-requires-clause-bits
net_bits-requires-clause-bits c =
    let given = rw c.as_slice.ensures at c.in_ok-bits_of_words.ensures in
    ap length (c.deref.ensures.value ∙ given) ∙ length-bits c.args.entries.now c.args.words.now c.args.part.now.ins ∙ sym c.requires.net.ins
