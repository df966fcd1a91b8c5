use Rattle.std.proofs.Common.{◌+◌, slice_index, sym, ap, ◌∙◌}
use Rattle.share_core.specs.Garbled.{label_xor, wire}
use Rattle.share_core.specs.Instructions.{slot_of}
use Rattle.party.proofs.Listed.{written_next, written-none}
use Rattle.party.proofs.conversions.put_joined.Goals as goal

pub loop-k-init : goal.loop-k-init
loop-k-init c = sym (written-none c.args.slots.now _ _)

pub loop-k-preserved : goal.loop-k-preserved
loop-k-preserved c =
    written_next c.args.slots.now c.loop-k.slots c.put.new.slots c.loop-k.k (λ n. slot_of (slice_index c.args.codes.now (c.args.instr.now.target + n))) (λ n. label_xor (wire c.args.wires.now.a.list n) (wire c.args.wires.now.b.list n)) c.slot_of.result c.label_xor-label.result c.loop-k.invariant
    (c.slot_of.ensures ∙ ap slot_of c.code_at.ensures) c.label_xor-label.ensures.value c.put.ensures
