use Rattle.std.proofs.Common.{◌≡◌, ◌<◌, List, length, sym, ap, ◌∙◌, subst, refl, arith}
use Rattle.word_graph.specs.declared.entry.Entry.{Entry}
use Rattle.word_graph.specs.Meaning.{run, InputsFit}
use Rattle.word_graph.specs.Shape.{IsGraph}
use Rattle.word_graph.proofs.LoopLaws.{value-taken, values-more, values-done}
use Rattle.word_graph.proofs.graph.Graph.value.Goals as goal

pub loop-place-init : goal.loop-place-init
unfolding run
loop-place-init c = refl

pub value_over-value-requires : goal.value_over-value-requires
value_over-value-requires c =
    let same : c.as_slice-entries.result.now ≡ c.args.self.now = c.as_slice-entries.ensures.value ∙ c.self.view_is in
    let graph : IsGraph c.as_slice-entries.result.now = subst (λ (es : List Entry). IsGraph es) (sym c.as_slice-entries.ensures.value) c.self.invariant.0 in
    let inputs : InputsFit c.as_slice-entries.result.now c.words-words.result.now = rw (same, c.words-words.ensures) c.requires.inputs in
    value-taken c.as_slice-entries.result.now c.words-words.result.now graph inputs c.loop-place.place _ c.loop-place-test.true _ c.term-term.result c.loop-place.invariant c.term-term.ensures

pub loop-place-preserved : goal.loop-place-preserved
loop-place-preserved c =
    let same : c.as_slice-entries.result.now ≡ c.args.self.now = c.as_slice-entries.ensures.value ∙ c.self.view_is in
    let graph : IsGraph c.as_slice-entries.result.now = subst (λ (es : List Entry). IsGraph es) (sym c.as_slice-entries.ensures.value) c.self.invariant.0 in
    let inputs : InputsFit c.as_slice-entries.result.now c.words-words.result.now = rw (same, c.words-words.ensures) c.requires.inputs in
    let room : c.loop-place.place < length c.loop-place.buffer = omega (arith, ap length same) in
    values-more c.as_slice-entries.result.now c.words-words.result.now graph inputs c.loop-place.place _ c.loop-place-test.true c.loop-place.buffer c.value_over-value.result c.term-term.result room c.loop-place.invariant c.term-term.ensures c.value_over-value.ensures

pub returns : goal.returns
returns c =
    let same : c.as_slice-entries.result.now ≡ c.args.self.now = c.as_slice-entries.ensures.value ∙ c.self.view_is in
    rw (← same, ← c.words-words.ensures) (values-done c.as_slice-entries.result.now c.words-words.result.now c.loop-place.place c.loop-place.buffer (omega (arith, ap length same)) c.loop-place-test.false c.loop-place.invariant)
