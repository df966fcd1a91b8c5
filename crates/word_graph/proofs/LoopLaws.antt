-- The steps of the loops over a graph's entries.
use Rattle.std.proofs.Common.{◌≡◌, ℕ, ◌+◌, ◌<◌, ◌≤◌, false, cond, List, [], ◌∷◌, ◌++◌, length, get_or, set, take, Some, slice_get, refl, sym, ap, ◌∙◌, subst, arith}
use Rattle.std.specs.List.{list_any, Contains}
use Rattle.std.proofs.lemmas.List.{take_more, take_more_set, take_all, get_or-map, get_or-take, length-map, length-take-le, map-append}
use Rattle.std.proofs.lemmas.Option.{slice_get-get_or}
use Rattle.word_graph.specs.declared.entry.Entry.{Entry}
use Rattle.word_graph.specs.declared.entry.Term.{Term}
use Rattle.word_graph.specs.contracts.entry.TermPartialEq.TheImpl as impl
use Rattle.word_graph.specs.Term.{term_of, terms_of}
use Rattle.word_graph.specs.Meaning.{Word, term_value, words, values, value_over, IsTakenOver, HasInput, InputsFit}
use Rattle.word_graph.specs.Shape.{IsGraph, IsEntryAfter}
use Rattle.word_graph.proofs.EntryLaws.{AreEntries-at, AreEntries-take, terms_of-get}
use Rattle.word_graph.proofs.RunLaws.{Carries, Carries-run, run-push, carried, value_over-carried, IsTakenOver-carried, word_of_entry}
use Rattle.word_graph.proofs.TermLaws.{absent, kept}

-- ---- the terms of a graph are distinct

module _ (es : List Entry) (graph : IsGraph es) (i : ℕ) (d : Entry) (within : i < length es) where
  -- the entry here has a term that no earlier one has
  fresh : ¬ Contains (terms_of (take i es)) (term_of (get_or es i d))
  fresh (k, below, e) =
      let few : length (take i es) ≡ i = length-take-le i es (omega arith) in
      let earlier : k < i = omega (arith, length-map (take i es) term_of) in
      let at : slice_get (terms_of es) i ≡ Some (term_of (get_or es i d)) = terms_of-get es i (get_or es i d) (slice_get-get_or es i d within) in
      let before : slice_get (terms_of es) k ≡ Some (term_of (get_or es k d)) = terms_of-get es k (get_or es k d) (slice_get-get_or es k d (omega arith)) in
      let same : term_of (get_or es k d) ≡ term_of (get_or es i d) =
      ap term_of (sym (get_or-take i es k d earlier)) ∙ sym (get_or-map term_of (take i es) k d (term_of (get_or es i d)) (omega arith)) ∙ e in
      graph.distinct k i earlier within (before ∙ ap (λ (t : Term). Some t) same ∙ sym at)

  pub terms-more : (keys more : List Term) (t : Term) → keys ≡ terms_of (take i es) → t ≡ term_of (get_or es i d) →
      more ≡ cond (list_any (impl.eq-value.it t) keys) keys (keys ++ t ∷ []) → more ≡ terms_of (take (i + 1) es)
  terms-more keys more t inv is made =
      let none : list_any (impl.eq-value.it t) keys ≡ false = rw (inv, is) (absent (term_of (get_or es i d)) (terms_of (take i es)) fresh) in
      made
      ∙ kept keys (keys ++ t ∷ []) (list_any (impl.eq-value.it t) keys) none
      ∙ rw (inv, is) refl
      ∙ sym (map-append term_of (take i es) (get_or es i d ∷ []))
      ∙ ap terms_of (sym (take_more es i d within))

-- ---- values

module _ (es : List Entry) (ins : List ℕ) (graph : IsGraph es) (inputs : InputsFit es ins) (i : ℕ) (d : Entry) (within : i < length es) where
  so_far : Carries (take i es) (words (take i es) ins)
  so_far = Carries-run ins [] (take i es) [] (AreEntries-take [] es i graph.entries)
      (λ k e below.
      let few : length (take i es) ≡ i = length-take-le i es (omega arith) in
      let earlier : k < i = omega arith in
      subst (λ (v : Entry). HasInput ins v.op v.width v.number) (sym (get_or-take i es k e earlier)) (inputs k e (omega arith)))
      (record { widths = refl; fit = λ k e h. absurd (omega arith) })

  entry_here : IsEntryAfter (take i es) (get_or es i d)
  entry_here = AreEntries-at [] es i (get_or es i d) graph.entries (slice_get-get_or es i d within)

  pub value-taken : (vs : List ℕ) (t : Term) → vs ≡ values (take i es) ins → t ≡ term_of (get_or es i d) → IsTakenOver (take i es) vs ins t
  value-taken vs t inv is = rw (inv, is) (IsTakenOver-carried ins (take i es) (words (take i es) ins) (term_of (get_or es i d)) so_far entry_here.fits (inputs i d within))

  pub values-more : (buffer : List ℕ) (v : ℕ) (t : Term) → i < length buffer → take i buffer ≡ values (take i es) ins → t ≡ term_of (get_or es i d) →
      v ≡ value_over (take i es) (take i buffer) ins t → take (i + 1) (set buffer i v) ≡ values (take (i + 1) es) ins
  values-more buffer v t room inv is at =
      let e : Entry = get_or es i d in
      let ws : List Word = words (take i es) ins in
      let value_is : v ≡ term_value ins ws (term_of e) = at ∙ rw (inv, is) (value_over-carried ins (take i es) ws (term_of e) so_far) in
      let next : words (take (i + 1) es) ins ≡ ws ++ word_of_entry ins ws e ∷ [] = ap (λ (l : List Entry). words l ins) (take_more es i d within) ∙ run-push ins [] (take i es) e in
      take_more_set buffer i v room
      ∙ rw (inv, value_is) refl
      ∙ sym (map-append (λ (w : Word). w.value) ws (word_of_entry ins ws e ∷ []))
      ∙ ap carried (sym next)

pub values-done : (es : List Entry) (ins : List ℕ) (i : ℕ) (buffer : List ℕ) → length buffer ≤ i → length es ≤ i → take i buffer ≡ values (take i es) ins → buffer ≡ values es ins
values-done es ins i buffer full all inv = sym (take_all i buffer full) ∙ inv ∙ ap (λ (l : List Entry). values l ins) (take_all i es all)
