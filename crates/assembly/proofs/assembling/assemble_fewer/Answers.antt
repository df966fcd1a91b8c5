use Rattle.std.proofs.Common.{arith, subst, sym}
use Rattle.assembly.specs.Outlines.{IsOutline, outline_of}
use Rattle.assembly.proofs.AssemblyLaws.{assembled-fewer, found-parts, given-parts, more-than-one, not-given-up}
use Rattle.assembly.proofs.assembling.assemble_fewer.Goals as goal

pub fewer_layers-requires-clause-some : goal.fewer_layers-requires-clause-some
fewer_layers-requires-clause-some c = more-than-one (outline_of c.args.draft) c.args.asked c.args.draft c.requires.draft c.requires.beyond

pub fewer_layers-requires-clause-few : goal.fewer_layers-requires-clause-few
fewer_layers-requires-clause-few c = c.requires.few

pub draft_of-requires-clause-outline : goal.draft_of-requires-clause-outline
draft_of-requires-clause-outline c = subst IsOutline (sym c.of-outline.ensures) c.requires.outline

pub draft_of-requires-clause-few : goal.draft_of-requires-clause-few
draft_of-requires-clause-few c = omega (arith, c.in_ok-layers.ensures.fewer, c.requires.few)

pub unreachable-requires : goal.unreachable-requires
unreachable-requires c =
    let drafted = rw c.of-outline.ensures at c.in_ok-draft_of.ensures.draft in
    let few = rw (c.as_slice.ensures, c.of-outline.ensures) at c.in_ok-layers.ensures.few in
    let up = given-parts c.in_ok-draft_of.field-0 c.in-GivenUp.field-0 c.in_ok-bundle.field-0 c.in-GivenUp.is c.in_ok-bundle.ensures.chosen in
    not-given-up c.args.draft c.in_ok-draft_of.field-0 c.in_ok-layers.layers drafted few up.1

pub returns-clause-assembled : goal.returns-clause-assembled
returns-clause-assembled c =
    let drafted = rw c.of-outline.ensures at c.in_ok-draft_of.ensures.draft in
    let few = rw (c.as_slice.ensures, c.of-outline.ensures) at c.in_ok-layers.ensures.few in
    let greatest = rw (c.as_slice.ensures, c.of-outline.ensures) at c.in_ok-layers.ensures.greatest in
    let found = found-parts c.in_ok-draft_of.field-0 c.in_ok-bundle.field-0 c.in-Found.bundle c.in-Found.is c.in_ok-bundle.ensures.chosen in
    assembled-fewer c.args.draft c.in_ok-draft_of.field-0 c.args.asked c.in_ok-layers.layers c.in-Found.bundle c.requires.outline c.requires.draft c.requires.beyond drafted found.0 found.1 c.in_ok-layers.ensures.fewer few greatest
