use Rattle.bundle_core.proofs.MeaningLaws.{bits-step}
use Rattle.bundle_core.proofs.meaning.bits_of_words.Goals as goal

pub loop-place-preserved : goal.loop-place-preserved
loop-place-preserved c =
    bits-step c.args.entries.now c.args.words.now c.args.places.now c.loop-place.place-index 0 _ _ _ c.loop-place-test.true (c.requires.stand c.loop-place.place-index 0 c.loop-place-test.true) c.loop-place.invariant c.in_ok-push_bits.ensures
