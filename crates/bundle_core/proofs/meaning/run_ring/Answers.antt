use Rattle.std.proofs.Common.{◌≡◌, ap, ◌∙◌}
use Rattle.ring_net.specs.Ring.{values, words}
use Rattle.bundle_core.specs.Meaning.{put_words, words_at}
use Rattle.bundle_core.proofs.MeaningLaws.{outputs-values, words-fit}
use Rattle.bundle_core.proofs.meaning.run_ring.Goals as goal

pub value-requires-clause-inputs : goal.value-requires-clause-inputs
value-requires-clause-inputs c =
    rw (c.requires.ring.ins, c.deref.ensures.value, c.in_ok-words_at.ensures, c.as_slice.ensures) (words-fit c.args.entries.now c.args.words.now c.args.part.now.ins c.requires.words)

pub returns : goal.returns
returns c =
    let given = rw c.as_slice.ensures at c.in_ok-words_at.ensures in
    let all : c.value.new.buffer ≡ values c.args.ring.now (words_at c.args.words.now c.args.part.now.ins) = c.value.ensures ∙ ap (values c.args.ring.now) (c.deref.ensures.value ∙ given) in
    c.put_words.ensures
    ∙ rw (c.as_slice-2.ensures, c.outs.ensures.value) (ap (put_words c.args.words.now c.args.part.now.outs) (outputs-values (words c.args.ring.now (words_at c.args.words.now c.args.part.now.ins)) c.value.new.buffer c.args.ring.now.outs all))
