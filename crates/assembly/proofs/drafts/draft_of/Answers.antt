use Rattle.std.proofs.Common.{ap, ◌∙◌}
use Rattle.module_split.specs.Pieces.{Pieces}
use Rattle.module_circuits.proofs.CircuitLaws.{passed-on}
use Rattle.assembly.proofs.DraftLaws.{is-draft, is-draft-of, modules-of, over-graph}
use Rattle.assembly.proofs.drafts.draft_of.Goals as goal

pub variants_of-requires : goal.variants_of-requires
variants_of-requires c =
    let cut = rw c.as_slice.ensures at c.in_ok-modules.ensures in
    modules-of c.args.outline.graph c.args.outline.results c.args.layers c.list.result.now c.requires.outline.results_stand c.requires.some c.requires.few (c.list.ensures ∙ ap (λ (p : Pieces). p.list) cut)

pub returns-in_err-variants-clause-limit : goal.returns-in_err-variants-clause-limit
returns-in_err-variants-clause-limit c =
    let cut = rw c.as_slice.ensures at c.in_ok-modules.ensures in
    let over = rw c.list.ensures at c.in_err-variants.ensures.limit in
    passed-on _ c.in_err-variants.field-0.0 _ c.from_residual-in_err-variants.ensures.1
    (over-graph c.args.outline c.args.layers c.in_ok-modules.modules c.in_err-variants.field-0.0 c.entries-entries.ensures.graph c.requires.some cut over)

pub of-requires : goal.of-requires
of-requires c =
    let cut = rw c.as_slice.ensures at c.in_ok-modules.ensures in
    let circuits = rw c.list.ensures at c.in_ok-variants.ensures.circuits in
    let whole = rw c.list.ensures at c.in_ok-variants.ensures.whole in
    rw c.new.ensures
    (is-draft c.args.outline c.args.layers c.in_ok-modules.modules c.in_ok-variants.variants.items c.requires.outline c.entries-entries.ensures.graph c.requires.some c.requires.few cut circuits whole c.in_ok-variants.ensures.compact c.in_ok-variants.ensures.shallow)

pub returns-clause-draft : goal.returns-clause-draft
returns-clause-draft c =
    let cut = rw c.as_slice.ensures at c.in_ok-modules.ensures in
    let circuits = rw c.list.ensures at c.in_ok-variants.ensures.circuits in
    let whole = rw c.list.ensures at c.in_ok-variants.ensures.whole in
    rw (c.of.ensures, c.new.ensures)
    (is-draft-of c.args.outline c.args.layers c.in_ok-modules.modules c.in_ok-variants.variants.items c.requires.outline c.entries-entries.ensures.graph c.requires.some c.requires.few cut circuits whole c.in_ok-variants.ensures.compact c.in_ok-variants.ensures.shallow)
