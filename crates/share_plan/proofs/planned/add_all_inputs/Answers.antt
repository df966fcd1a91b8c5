use Rattle.std.proofs.Common.{ap, ◌∙◌}
use Rattle.hy_bits.specs.Ports.{owners}
use Rattle.share_plan.proofs.TakerLaws.{all-inputs}
use Rattle.share_plan.proofs.planned.add_all_inputs.Goals as goal

pub returns : goal.returns
returns c =
    all-inputs c.deref.result.now c.in_ok-takers.takers.items c.entries-entries.result.now c.args.parts.now.graph c.deref-2.result.now (owners c.args.parts.now.ports) c.list.result.now c.args.parts.now.modules.list c.args.choices.now
    c.as_slice-2.result.now c.args.parts.now.results _ _ c.deref.ensures.value c.entries-entries.ensures.value (c.deref-2.ensures.value ∙ c.in_ok-owners.ensures ∙ ap owners c.as_slice.ensures) c.list.ensures c.as_slice-2.ensures c.in_ok-takers.ensures
    c.in_ok-add_inputs.ensures
