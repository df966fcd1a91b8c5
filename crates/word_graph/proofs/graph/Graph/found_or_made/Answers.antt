use Rattle.std.proofs.Common.{◌≡◌, ◌<◌, false, List, [], ◌∷◌, ◌++◌, length, inr, refl, sym, ap, ◌∙◌, rules}
use Rattle.std.proofs.lemmas.List.{length-map}
use Rattle.std.specs.List.{list_any}
use Rattle.word_graph.specs.declared.entry.Term.{Term}
use Rattle.word_graph.specs.contracts.entry.TermPartialEq.TheImpl as impl
use Rattle.word_graph.specs.Term.{entry_of, term_of, terms_of}
use Rattle.word_graph.specs.Shape.{node_limit}
use Rattle.word_graph.proofs.EntryLaws.{Contains-slice_get, IsGraph-push, slice_get-push, terms_of-push}
use Rattle.word_graph.proofs.TermLaws.{found, missed, kept}
use Rattle.word_graph.proofs.graph.Graph.found_or_made.Goals as goal

pub returns-in-Some-clause-answer : goal.returns-in-Some-clause-answer
returns-in-Some-clause-answer c =
    let at = found c.args.term c.self.inside.terms.keys c.in-Some.place (sym c.in-Some.ensures.index) in
    rw (← c.self.view_is, ← c.self.invariant.1) at

pub returns-in-Some-clause-list : goal.returns-in-Some-clause-list
returns-in-Some-clause-list c =
    let at = found c.args.term c.self.inside.terms.keys c.in-Some.place (sym c.in-Some.ensures.index) in
    let here = Contains-slice_get c.self.inside.terms.keys c.in-Some.place c.args.term at in
    rw (← c.self.view_is) (inr (rw c.self.invariant.1 at here, refl))

pub returns-in-Some-clause-limit : goal.returns-in-Some-clause-limit
returns-in-Some-clause-limit c =
    let at = found c.args.term c.self.inside.terms.keys c.in-Some.place (sym c.in-Some.ensures.index) in
    let here = Contains-slice_get c.self.inside.terms.keys c.in-Some.place c.args.term at in
    rw (← c.self.view_is) (λ p. p.0 (rw c.self.invariant.1 at here))

pub invariant_of-self-in-Ok : goal.invariant_of-self-in-Ok
invariant_of-self-in-Ok c =
    let none : list_any (impl.eq-value.it c.args.term) c.self.inside.terms.keys ≡ false = sym c.in_default.ensures.found in
    let absent = rw c.self.invariant.1 at (missed c.args.term c.self.inside.terms.keys none) in
    let fits = rw (← c.self.view_is) at c.requires.fits in
    let live = rw (← c.self.view_is) at c.requires.live in
    let room : length c.self.inside.entries.items < node_limit = search rules in
    let keys : c.insert.new.self.keys ≡ terms_of c.self.inside.entries.items ++ c.args.term ∷ [] = c.in-Ok.ensures.keys ∙ kept _ _ (list_any (impl.eq-value.it c.args.term) c.self.inside.terms.keys) none ∙ ap (λ (ts : List Term). ts ++ c.args.term ∷ []) c.self.invariant.1 in
    rw (c.in_ok-push.ensures.items, c.entry.ensures)
    (IsGraph-push c.self.inside.entries.items c.args.term c.args.region c.self.invariant.0 fits live absent room, keys ∙ sym (terms_of-push c.self.inside.entries.items (entry_of c.args.term c.args.region)))

pub returns-in-Ok-clause-answer : goal.returns-in-Ok-clause-answer
returns-in-Ok-clause-answer c =
    let place : c.len-place.result ≡ length c.self.inside.entries.items = search rules in
    rw (c.in_ok-push.ensures.items, c.entry.ensures, terms_of-push, place, ← length-map c.self.inside.entries.items term_of) (slice_get-push (terms_of c.self.inside.entries.items) c.args.term)

pub returns-in-Ok-clause-graph : goal.returns-in-Ok-clause-graph
returns-in-Ok-clause-graph c =
    let none : list_any (impl.eq-value.it c.args.term) c.self.inside.terms.keys ≡ false = sym c.in_default.ensures.found in
    let absent = rw c.self.invariant.1 at (missed c.args.term c.self.inside.terms.keys none) in
    let fits = rw (← c.self.view_is) at c.requires.fits in
    let live = rw (← c.self.view_is) at c.requires.live in
    let room : length c.self.inside.entries.items < node_limit = search rules in
    rw (c.in_ok-push.ensures.items, c.entry.ensures) (IsGraph-push c.self.inside.entries.items c.args.term c.args.region c.self.invariant.0 fits live absent room)
