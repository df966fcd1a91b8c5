use Rattle.hy_bits.proofs.BitSteps.{word-fits, word-more}
use Rattle.hy_bits.proofs.bits.word_of.Goals as goal

pub overflow_add-word : goal.overflow_add-word
overflow_add-word c =
    record { fits = rw c.from.ensures (word-fits c.args.bits.now c.loop-place.place c.loop-place-test.true c.requires c.loop-place.word c.loop-place.invariant) }

pub loop-place-preserved : goal.loop-place-preserved
loop-place-preserved c =
    rw c.from.ensures (word-more c.args.bits.now c.loop-place.place c.loop-place-test.true c.requires c.loop-place.word c.loop-place.invariant)
