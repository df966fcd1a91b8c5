use Rattle.std.proofs.Common.{◌<◌, List, [], get_or, length, sym, ap, ◌∙◌, arith}
use Rattle.std.proofs.lemmas.List.{get_or_default}
use Rattle.module_split.specs.declared.module.Module.{Module}
use Rattle.bundle_core.specs.declared.parts.Variant.{Variant}
use Rattle.share_plan.proofs.ModuleLaws.{modules-end, modules-more}
use Rattle.share_plan.proofs.modules.add_each.Goals as goal

pub loop-number-preserved : goal.loop-number-preserved
loop-number-preserved c =
    let within : c.loop-number.number < length c.args.parts.now.modules.list = omega (arith, ap length c.list-part-items.ensures, c.loop-number-test.true) in
    modules-more c.args.parts.now.graph c.args.parts.now.modules.edges c.args.parts.now.modules.list c.args.parts.now.variants c.args.choices.now c.loop-number.number c.part-item.result c.index-variants-number.result _ c.as_slice-words.result.now _ _ _ within
    (omega (arith, within, c.requires.variants)) (omega (arith, within, c.requires.choices))
    (c.part-item.is ∙ ap (λ (xs : List Module). get_or xs c.loop-number.number c.part-item.result) c.list-part-items.ensures)
    (c.index-variants-number.is ∙ ap (λ (xs : List Variant). get_or xs c.loop-number.number c.index-variants-number.result) c.as_slice-variants.ensures)
    (c.as_slice-words.ensures ∙ c.index-words-number.is ∙ get_or_default c.args.words.now c.loop-number.number c.index-words-number.result [] (omega (arith, within, c.requires.words.size)) ∙ c.requires.words.each c.loop-number.number within)
    (rw c.entries-entries.ensures.value at c.in_ok-add_module.ensures) c.loop-number.invariant

pub returns : goal.returns
returns c =
    sym (modules-end c.args.parts.now.graph c.args.parts.now.modules.edges c.args.parts.now.modules.list _ _ c.loop-number.number _ (omega (arith, ap length c.list-part-items.ensures, c.loop-number-test.false)))
    ∙ c.loop-number.invariant
