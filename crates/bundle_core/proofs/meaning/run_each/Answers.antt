use Rattle.std.proofs.Common.{◌<◌, length, sym, ◌∙◌, arith, rules}
use Rattle.bundle_core.proofs.MeaningLaws.{AreVariants-length, FitsNodes-after, after_modules-end, room-at, variant-at, whole-more}
use Rattle.bundle_core.proofs.meaning.run_each.Goals as goal

pub offset_bounds-variants-number : goal.offset_bounds-variants-number
offset_bounds-variants-number c =
    let below : c.loop-number.number < length c.args.variants.now = omega (arith, AreVariants-length c.args.entries.now c.args.list.now c.args.variants.now c.requires.variants, c.loop-number-test.true) in
    search rules

pub bounds-variants-number : goal.bounds-variants-number
bounds-variants-number c = omega (arith, AreVariants-length c.args.entries.now c.args.list.now c.args.variants.now c.requires.variants, c.loop-number-test.true)

pub bounds-choices-number : goal.bounds-choices-number
bounds-choices-number c = omega (arith, AreVariants-length c.args.entries.now c.args.list.now c.args.variants.now c.requires.variants, c.loop-number-test.true, c.requires.choices)

pub run_module-requires-clause-variant : goal.run_module-requires-clause-variant
run_module-requires-clause-variant c =
    variant-at c.args.entries.now c.args.list.now c.args.variants.now c.loop-number.number c.index-list-number.result c.index-variants-number.result c.requires.variants c.loop-number-test.true c.index-list-number.is c.index-variants-number.is

pub run_module-requires-clause-room : goal.run_module-requires-clause-room
run_module-requires-clause-room c =
    let below : c.loop-number.number < length c.args.variants.now = omega (arith, AreVariants-length c.args.entries.now c.args.list.now c.args.variants.now c.requires.variants, c.loop-number-test.true) in
    room-at c.args.variants.now c.loop-number.number c.index-variants-number.result (length c.args.bits.now) (length c.loop-number.bits) (length c.args.values.now) (length c.loop-number.values) c.requires.bits c.requires.values below c.index-variants-number.is c.loop-number.auto.bits c.loop-number.auto.values

pub loop-number-preserved : goal.loop-number-preserved
loop-number-preserved c =
    let below : c.loop-number.number < length c.args.variants.now = omega (arith, AreVariants-length c.args.entries.now c.args.list.now c.args.variants.now c.requires.variants, c.loop-number-test.true) in
    let chosen : c.loop-number.number < length c.args.choices.now = omega (arith, below, c.requires.choices) in
    let is = variant-at c.args.entries.now c.args.list.now c.args.variants.now c.loop-number.number c.index-list-number.result c.index-variants-number.result c.requires.variants c.loop-number-test.true c.index-list-number.is c.index-variants-number.is in
    record {
      words = rw c.in_ok-run_module.ensures (FitsNodes-after c.args.entries.now c.index-list-number.result c.index-variants-number.result _ c.loop-number.words is c.loop-number.invariant.words);
      whole = whole-more c.args.entries.now c.args.list.now c.args.variants.now c.args.choices.now c.loop-number.number c.index-list-number.result c.index-variants-number.result _ c.loop-number.words c.run_module.new.words _ c.loop-number-test.true below chosen c.index-list-number.is c.index-variants-number.is c.in_ok-run_module.ensures c.loop-number.invariant.whole;
    }

pub returns : goal.returns
returns c =
    sym (after_modules-end c.args.entries.now c.args.list.now _ _ c.loop-number.number c.loop-number.words c.loop-number-test.false) ∙ c.loop-number.invariant.whole
