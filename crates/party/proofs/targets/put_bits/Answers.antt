use Rattle.std.proofs.Common.{◌+◌, slice_index, sym, ap, ◌∙◌}
use Rattle.hy_bits.specs.Bits.{bit}
use Rattle.share_core.specs.Boolean.{bit_of}
use Rattle.share_core.specs.Instructions.{slot_of}
use Rattle.share_core.specs.Machine.{word_slot}
use Rattle.party.proofs.Listed.{written_next, written-none}
use Rattle.party.proofs.targets.put_bits.Goals as goal

pub loop-k-init : goal.loop-k-init
loop-k-init c = sym (written-none c.args.slots.now _ _)

pub loop-k-preserved : goal.loop-k-preserved
loop-k-preserved c =
    let k = c.loop-k.k in
    written_next c.args.slots.now c.loop-k.slots c.put.new.slots k (λ n. slot_of (slice_index c.args.codes.now (c.args.place + n))) (λ n. word_slot (bit (bit_of c.args.word n))) c.slot_of.result (word_slot c.from.result) c.loop-k.invariant
    (c.slot_of.ensures ∙ ap slot_of c.code_at.ensures) (ap word_slot (c.from.ensures ∙ ap bit c.bit_of.ensures)) c.put.ensures
