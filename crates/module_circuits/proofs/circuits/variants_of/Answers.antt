use Rattle.std.proofs.Common.{ap, length, arith}
use Rattle.bundle_core.specs.declared.parts.Variant.{Variant}
use Rattle.std.proofs.lemmas.List.{length_push}
use Rattle.module_circuits.proofs.CircuitLaws.{circuits-more, counts-more, over-sum, passed-on}
use Rattle.module_circuits.proofs.circuits.variants_of.Goals as goal

pub returns-in_err-variant-clause-limit : goal.returns-in_err-variant-clause-limit
returns-in_err-variant-clause-limit c =
    let inv = c.loop-part.invariant in
    passed-on _ c.in_err-variant.field-0.0 _ c.from_residual-in_err-variant.ensures.1
    (over-sum c.args.graph.now c.args.list.now c.loop-part.part-index c.loop-part.used.compact c.loop-part.used.shallow c.part-item.result c.in_err-variant.field-0.0 c.loop-part-test.true c.part-item.is inv.6 inv.7 c.in_err-variant.ensures.limit)

pub loop-part-preserved : goal.loop-part-preserved
loop-part-preserved c =
    let inv = c.loop-part.invariant in
    let made = c.in_ok-push.ensures.items in
    let fits = c.in_ok-variant.ensures in
    let compact = counts-more c.args.list.now c.args.graph.now c.loop-part.part-index c.loop-part.used.compact (length c.gates.result.now) (λ (v : Variant). length v.compact.gates) c.loop-part.variants.items c.push.new.self.items c.part-item.result c.in_ok-variant.variant c.loop-part-test.true c.part-item.is
    inv.2 inv.6 fits.circuits.sizes.compact (ap length c.gates.ensures.value) made in
    let shallow = counts-more c.args.list.now c.args.graph.now c.loop-part.part-index c.loop-part.used.shallow (length c.gates-in-loop-part.result.now) (λ (v : Variant). length v.shallow.gates) c.loop-part.variants.items c.push.new.self.items c.part-item.result c.in_ok-variant.variant c.loop-part-test.true c.part-item.is
    inv.3 inv.7 fits.circuits.sizes.shallow (ap length c.gates-in-loop-part.ensures.value) made in (
      circuits-more c.args.graph.now c.args.list.now c.loop-part.variants.items c.push.new.self.items c.part-item.result c.in_ok-variant.variant c.loop-part.part-index inv.0 inv.1 c.loop-part-test.true c.part-item.is fits.circuits made,
      omega (arith, ap length made, length_push c.loop-part.variants.items c.in_ok-variant.variant, inv.1),
      compact.0,
      shallow.0,
      omega (arith, fits.compact_room, ap length c.gates.ensures.value),
      omega (arith, fits.shallow_room, ap length c.gates-in-loop-part.ensures.value),
      compact.1,
      shallow.1,
    )
