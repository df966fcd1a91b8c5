use Rattle.hy_bits.specs.Shape.{leaves_of_ports}
use Rattle.bundle_core.proofs.MeaningLaws.{FitsNodes-given, ins-stand, outs-stand}
use Rattle.bundle_core.proofs.meaning.meaning_of.Goals as goal

pub run_modules-requires-clause-ins : goal.run_modules-requires-clause-ins
run_modules-requires-clause-ins c =
    let graph = rw c.parts-parts.ensures.value at c.entries-entries.ensures.graph in
    rw (c.list.ensures, c.entries-entries.ensures.value, c.parts-parts.ensures.value) (ins-stand c.args.draft.now c.parts-parts.ensures.draft graph)

pub run_modules-requires-clause-outs : goal.run_modules-requires-clause-outs
run_modules-requires-clause-outs c =
    let graph = rw c.parts-parts.ensures.value at c.entries-entries.ensures.graph in
    rw (c.list.ensures, c.entries-entries.ensures.value, c.parts-parts.ensures.value) (outs-stand c.args.draft.now c.parts-parts.ensures.draft graph)

pub run_modules-requires-clause-words : goal.run_modules-requires-clause-words
run_modules-requires-clause-words c =
    let graph = rw c.parts-parts.ensures.value at c.entries-entries.ensures.graph in
    rw (c.deref_mut.ensures.value, c.in_ok-words.ensures, c.words.ensures, c.entries-entries.ensures.value, c.parts-parts.ensures.value) (FitsNodes-given c.args.draft.now.graph (leaves_of_ports c.args.draft.now.ports) c.args.inputs.now graph c.requires.inputs c.parts-parts.ensures.draft.inputs)
