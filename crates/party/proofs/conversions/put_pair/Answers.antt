use Rattle.std.proofs.Common.{◌≡◌, ◌+◌, ◌*◌, ◌++◌, ℕ, slice_index, subst}
use Rattle.share_core.specs.Garbled.{wire}
use Rattle.share_core.specs.Instructions.{slot_of}
use Rattle.share_core.specs.Machine.{listed, written}
use Rattle.party.proofs.Listed.{put_twice}
use Rattle.party.proofs.conversions.put_pair.Goals as goal

pub returns : goal.returns
returns c =
    let slots = c.args.slots.now in
    let a = wire c.args.wires.now.a.list in
    let b = wire c.args.wires.now.b.list in
    let place : ℕ → ℕ = λ k. slot_of (slice_index c.args.codes.now (c.args.instr.now.target + k)) in
    subst (λ (n : ℕ). c.put_labels-2.new.slots ≡ written slots (listed (2 * n) place) (listed n a ++ listed n b)) c.bits-count.ensures
    (put_twice slots c.put_labels.new.slots c.put_labels-2.new.slots c.args.codes.now c.args.instr.now.target c.bits-count.result a b c.put_labels.ensures c.put_labels-2.ensures)
