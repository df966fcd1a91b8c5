use Rattle.std.proofs.Common.{◌<◌, ◌∙◌, None, Option, ℕ, ap, length, length-set}
use Rattle.std.proofs.lemmas.List.{length-replicate}
use Rattle.gate_arena.proofs.ChainLaws.{AreChained-all, AreChained-nil, AreChained-next, low-wire, read}
use Rattle.gate_arena.proofs.outs.Outs.new.Goals as goal

pub loop-place-init : goal.loop-place-init
loop-place-init c = record {
  wires = ap length c.in_ok-first.ensures.items ∙ length-replicate {A = Option ℕ} c.args.wires None;
  chained = rw c.in_ok-next.ensures.items (AreChained-nil c.args.wires c.in_ok-first.first.items c.in_ok-first.ensures.items);
}

pub loop-place-preserved : goal.loop-place-preserved
loop-place-preserved c =
    let low : c.wire_of-wire.result < length c.loop-place.first.items = low-wire c.deref-lit-items.result.now c.args.lits.items c.args.wires c.loop-place.place _ c.wire_of-wire.result c.deref-lit-items.ensures.value c.loop-place-test.true c.requires c.wire_of-wire.ensures c.loop-place.invariant.wires in
    record {
      wires = length-set c.loop-place.first.items c.wire_of-wire.result _ ∙ c.loop-place.invariant.wires;
      chained = AreChained-next c.deref-lit-items.result.now c.loop-place.first.items c.loop-place.next.items c.loop-place.place c.wire_of-wire.result _ c.index.result.now c.push.new.self.items c.loop-place-test.true c.wire_of-wire.ensures low
          c.loop-place.invariant.chained (read c.loop-place.first.items c.wire_of-wire.result None c.index.result.now low c.index.ensures) c.in_ok-push.ensures.items;
    }

pub invariant_of-result : goal.invariant_of-result
invariant_of-result c = AreChained-all c.deref-lit-items.result.now c.args.lits.items c.loop-place.first.items c.loop-place.next.items c.loop-place.place c.deref-lit-items.ensures.value c.loop-place-test.false c.loop-place.invariant.chained
