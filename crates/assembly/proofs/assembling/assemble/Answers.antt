use Rattle.std.proofs.Common.{subst, sym, ap, ◌∙◌}
use Rattle.std.specs.Prelude.{IfOk}
use Rattle.bundle_core.specs.declared.parts.Parts.{Parts}
use Rattle.assembly.specs.declared.outlines.Outline.{Outline}
use Rattle.assembly.specs.Assembled.{IsAssembled}
use Rattle.assembly.specs.Choosing.{IsGivenUp}
use Rattle.assembly.specs.Outlines.{IsDraftOf, IsOutline, outline_of}
use Rattle.assembly.proofs.AssemblyLaws.{assembled, found-parts, given-parts}
use Rattle.assembly.proofs.DraftLaws.{limit-moved}
use Rattle.assembly.proofs.assembling.assemble.Goals as goal

pub returns-in-Found-clause-assembled : goal.returns-in-Found-clause-assembled
returns-in-Found-clause-assembled c =
    let found = found-parts c.in_ok-draft.draft c.in_ok-bundle.field-0 c.in-Found.bundle c.in-Found.is c.in_ok-bundle.ensures.chosen in
    assembled c.args.outline c.args.layers c.in_ok-draft.draft c.in-Found.bundle c.requires.outline c.in_ok-draft.ensures.draft found.0 found.1

pub assemble_fewer-requires-clause-outline : goal.assemble_fewer-requires-clause-outline
assemble_fewer-requires-clause-outline c =
    let up = given-parts c.in_ok-draft.draft c.in-GivenUp.draft c.in_ok-bundle.field-0 c.in-GivenUp.is c.in_ok-bundle.ensures.chosen in
    subst IsOutline (sym (ap outline_of up.0 ∙ c.in_ok-draft.ensures.draft.outline)) c.requires.outline

pub assemble_fewer-requires-clause-draft : goal.assemble_fewer-requires-clause-draft
assemble_fewer-requires-clause-draft c =
    let up = given-parts c.in_ok-draft.draft c.in-GivenUp.draft c.in_ok-bundle.field-0 c.in-GivenUp.is c.in_ok-bundle.ensures.chosen in
    let here = subst (λ (o : Outline). IsDraftOf o c.args.layers c.in_ok-draft.draft) (sym c.in_ok-draft.ensures.draft.outline) c.in_ok-draft.ensures.draft in
    subst (λ (p : Parts). IsDraftOf (outline_of p) c.args.layers p) (sym up.0) here

pub assemble_fewer-requires-clause-beyond : goal.assemble_fewer-requires-clause-beyond
assemble_fewer-requires-clause-beyond c =
    let up = given-parts c.in_ok-draft.draft c.in-GivenUp.draft c.in_ok-bundle.field-0 c.in-GivenUp.is c.in_ok-bundle.ensures.chosen in
    subst IsGivenUp (sym up.0) up.1

pub returns-in-GivenUp-clause-assembled : goal.returns-in-GivenUp-clause-assembled
returns-in-GivenUp-clause-assembled c =
    let up = given-parts c.in_ok-draft.draft c.in-GivenUp.draft c.in_ok-bundle.field-0 c.in-GivenUp.is c.in_ok-bundle.ensures.chosen in
    subst (λ (o : Outline). IfOk c.assemble_fewer.result (IsAssembled o c.args.layers)) (ap outline_of up.0 ∙ c.in_ok-draft.ensures.draft.outline) c.assemble_fewer.ensures.assembled

pub returns-in-GivenUp-clause-limit : goal.returns-in-GivenUp-clause-limit
returns-in-GivenUp-clause-limit c =
    let up = given-parts c.in_ok-draft.draft c.in-GivenUp.draft c.in_ok-bundle.field-0 c.in-GivenUp.is c.in_ok-bundle.ensures.chosen in
    limit-moved _ (outline_of c.in-GivenUp.draft) c.args.outline (ap outline_of up.0 ∙ c.in_ok-draft.ensures.draft.outline) c.assemble_fewer.ensures.limit
