use Rattle.std.proofs.Common.{◌∙◌}
use Rattle.std.proofs.lemmas.List.{length-map}
use Rattle.bundle_core.specs.Costs.{own_costs}
use Rattle.bundle_core.proofs.MeaningLaws.{AreVariants-length}
use Rattle.share_plan.proofs.planned.script_of.Goals as goal

pub script_under-requires-clause-variants : goal.script_under-requires-clause-variants
script_under-requires-clause-variants c =
    let parts = c.args.bundle.now.parts in
    rw c.parts.ensures.value (AreVariants-length parts.graph parts.modules.list parts.variants c.parts.ensures.bundle.draft.variants)

pub script_under-requires-clause-choices : goal.script_under-requires-clause-choices
script_under-requires-clause-choices c =
    let parts = c.args.bundle.now.parts in
    rw (c.parts.ensures.value, c.choices.ensures.value)
    (c.choices.ensures.bundle.choices.whole ∙ length-map parts.variants (own_costs parts.table) ∙ AreVariants-length parts.graph parts.modules.list parts.variants c.parts.ensures.bundle.draft.variants)
