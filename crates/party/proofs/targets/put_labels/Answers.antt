use Rattle.std.proofs.Common.{◌+◌, slice_index, refl, sym, ap, ◌∙◌}
use Rattle.share_core.specs.Garbled.{wire}
use Rattle.share_core.specs.Instructions.{slot_of}
use Rattle.party.proofs.Listed.{written_next, written-none}
use Rattle.party.proofs.targets.put_labels.Goals as goal

pub loop-k-init : goal.loop-k-init
loop-k-init c = sym (written-none c.args.slots.now _ _)

pub loop-k-preserved : goal.loop-k-preserved
loop-k-preserved c =
    let k = c.loop-k.k in
    written_next c.args.slots.now c.loop-k.slots c.put.new.slots k (λ n. slot_of (slice_index c.args.codes.now (c.args.place + n))) (wire c.args.labels.now.list) c.slot_of.result (wire c.args.labels.now.list k) c.loop-k.invariant
    (c.slot_of.ensures ∙ ap slot_of c.code_at.ensures) refl c.put.ensures
