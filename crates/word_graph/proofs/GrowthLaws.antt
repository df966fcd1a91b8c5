-- Laws of growth: it composes by adding, and what stood before keeps its width and its value.
use Rattle.std.proofs.Common.{◌≡◌, ◌≢◌, ℕ, zero, suc, ◌+◌, ◌<◌, ◌≤◌, List, [], ◌∷◌, ◌++◌, inl, inr, length, map, get_or, refl, sym, ap, ◌∙◌, subst, arith, append_assoc, length-append}
use Rattle.std.proofs.lemmas.List.{append-nil, get_or_append_left, map-append, length-map}
use Rattle.std.specs.List.{All}
use Rattle.std.proofs.lemmas.List.Elements.{All-append, All-push}
use Rattle.hy_bits.specs.declared.op.Op.{Op}
use Rattle.hy_bits.specs.declared.op.Op.TheVariants.{In}
use Rattle.hy_bits.specs.declared.width.Width.{Width}
use Rattle.hy_bits.specs.declared.width.Width.TheVariants.{W1}
use Rattle.word_graph.specs.declared.entry.Entry.{Entry}
use Rattle.word_graph.specs.declared.entry.Term.{Term}
use Rattle.word_graph.specs.Term.{width_at}
use Rattle.word_graph.specs.Meaning.{HasInput, InputsFit, Word, words, value}
use Rattle.word_graph.specs.declared.graph.GraphFault.{GraphFault}
use Rattle.word_graph.specs.declared.graph.GraphFault.TheVariants.{NodeLimit, Memory}
use Rattle.word_graph.specs.Shape.{node_limit}
use Rattle.word_graph.specs.Growth.{Grows, GrowsIn, IsMadeIn, StopsWithin}
use Rattle.word_graph.specs.Answer.{SharesOrAdds}
use Rattle.word_graph.specs.Size.{term_size}
use Rattle.word_graph.proofs.FoldLaws.{IsTermFor}
use Rattle.word_graph.proofs.NodeLaws.{SharesOrAdds-size}
use Rattle.word_graph.specs.Term.{entry_of, region_of}
use Rattle.word_graph.proofs.RunLaws.{length-run, run-append, word_at-run}

pub Grows-none : (es : List Entry) (nodes gates : ℕ) → Grows es es nodes gates
Grows-none es nodes gates = record { added = []; appended = sym (append-nil es); few_nodes = omega arith; few_gates = omega arith }

pub Grows-then : (old mid new : List Entry) (nodes gates more_nodes more_gates : ℕ) → Grows old mid nodes gates → Grows mid new more_nodes more_gates → Grows old new (nodes + more_nodes) (gates + more_gates)
Grows-then old mid new nodes gates more_nodes more_gates f g = record {
  added = f.added ++ g.added;
  appended = g.appended ∙ ap (λ (es : List Entry). es ++ g.added) f.appended ∙ append_assoc old f.added g.added;
  few_nodes = omega (arith, length-append f.added g.added, f.few_nodes, g.few_nodes);
  few_gates = omega (arith, f.few_gates, g.few_gates);
}

pub Grows-within : (old new : List Entry) (nodes gates more_nodes more_gates : ℕ) → Grows old new nodes gates → nodes ≤ more_nodes → gates ≤ more_gates → Grows old new more_nodes more_gates
Grows-within old new nodes gates more_nodes more_gates f n g = record {
  added = f.added;
  appended = f.appended;
  few_nodes = omega (arith, f.few_nodes);
  few_gates = omega (arith, f.few_gates);
}

module _ (old new : List Entry) (nodes gates : ℕ) (f : Grows old new nodes gates) where
  pub Grows-length : length old ≤ length new
  Grows-length = omega (arith, ap length f.appended, length-append old f.added)

  -- a node that stood keeps its width
  pub Grows-width : (k : ℕ) → k < length old → width_at new k ≡ width_at old k
  Grows-width k h =
      ap (λ (es : List Entry). width_at es k) f.appended
      ∙ ap (λ (ws : List Width). get_or ws k W1) (map-append (λ (e : Entry). e.width) old f.added)
      ∙ get_or_append_left (map (λ (e : Entry). e.width) old) (map (λ (e : Entry). e.width) f.added) W1 k (omega (arith, length-map old (λ (e : Entry). e.width)))

  -- and its value
  pub Grows-value : (ins : List ℕ) (k : ℕ) → k < length old → value new ins k ≡ value old ins k
  Grows-value ins k h =
      ap (λ (es : List Entry). value es ins k) f.appended
      ∙ ap (λ (ws : List Word). (get_or ws k (record { width = W1; value = 0 })).value) (run-append ins [] old f.added)
      ∙ ap (λ (w : Word). w.value) (word_at-run ins (words old ins) f.added k (omega (arith, length-run ins [] old)))

-- a node that is shared or added
pub SharesOrAdds-grows : (old new : List Entry) (t u : Term) (region : ℕ) → IsTermFor old t u → SharesOrAdds old new u region → Grows old new 1 (term_size old t)
SharesOrAdds-grows old new t u region f (inl (absent, e)) = record { added = entry_of u region ∷ []; appended = e; few_nodes = omega arith; few_gates = SharesOrAdds-size old new t u region f (inl (absent, e)) }
SharesOrAdds-grows old new t u region f (inr (here, e)) = record { added = []; appended = e ∙ sym (append-nil old); few_nodes = omega arith; few_gates = SharesOrAdds-size old new t u region f (inr (here, e)) }

-- ---- growth by nodes of one region, none of which is an input

pub GrowsIn-grows : (region : ℕ) (old new : List Entry) (nodes gates : ℕ) → GrowsIn region old new nodes gates → Grows old new nodes gates
GrowsIn-grows region old new nodes gates f = record { added = f.added; appended = f.appended; few_nodes = f.few_nodes; few_gates = f.few_gates }

pub GrowsIn-none : (region : ℕ) (es : List Entry) (nodes gates : ℕ) → GrowsIn region es es nodes gates
GrowsIn-none region es nodes gates = record { added = []; appended = sym (append-nil es); few_nodes = omega arith; few_gates = omega arith; made = λ k d h. absurd (omega arith) }

pub GrowsIn-then : (region : ℕ) (old mid new : List Entry) (nodes gates more_nodes more_gates : ℕ) → GrowsIn region old mid nodes gates → GrowsIn region mid new more_nodes more_gates → GrowsIn region old new (nodes + more_nodes) (gates + more_gates)
GrowsIn-then region old mid new nodes gates more_nodes more_gates f g = record {
  added = f.added ++ g.added;
  appended = g.appended ∙ ap (λ (es : List Entry). es ++ g.added) f.appended ∙ append_assoc old f.added g.added;
  few_nodes = omega (arith, length-append f.added g.added, f.few_nodes, g.few_nodes);
  few_gates = omega (arith, f.few_gates, g.few_gates);
  made = All-append (IsMadeIn region) f.added g.added f.made g.made;
}

pub GrowsIn-within : (region : ℕ) (old new : List Entry) (nodes gates more_nodes more_gates : ℕ) → GrowsIn region old new nodes gates → nodes ≤ more_nodes → gates ≤ more_gates → GrowsIn region old new more_nodes more_gates
GrowsIn-within region old new nodes gates more_nodes more_gates f n g = record {
  added = f.added;
  appended = f.appended;
  few_nodes = omega (arith, f.few_nodes);
  few_gates = omega (arith, f.few_gates);
  made = f.made;
}

no_input : (ins : List ℕ) (op : Op) (w : Width) (n : ℕ) → op ≢ In → HasInput ins op w n
no_input ins In w n other = absurd (other refl)
no_input ins _ w n other = tt

-- inputs that fit the old graph fit the new one
pub GrowsIn-inputs : (region : ℕ) (old new : List Entry) (nodes gates : ℕ) → GrowsIn region old new nodes gates → (ins : List ℕ) → InputsFit old ins → InputsFit new ins
GrowsIn-inputs region old new nodes gates f ins fit =
    subst (λ (es : List Entry). InputsFit es ins) (sym f.appended)
    (All-append (λ (e : Entry). HasInput ins e.op e.width e.number) old f.added fit (λ k d within. no_input ins _ _ _ (f.made k d within).0))

-- and inputs that fit a graph fit the one that it grew from
pub Grows-inputs : (old new : List Entry) (nodes gates : ℕ) → Grows old new nodes gates → (ins : List ℕ) → InputsFit new ins → InputsFit old ins
Grows-inputs old new nodes gates f ins fit k d within =
    let all : InputsFit (old ++ f.added) ins = subst (λ (es : List Entry). InputsFit es ins) f.appended fit in
    let here = all k d (omega (arith, length-append old f.added)) in
    subst (λ (e : Entry). HasInput ins e.op e.width e.number) (get_or_append_left old f.added d k within) here

-- a node that is shared or added
pub SharesOrAdds-grows_in : (old new : List Entry) (t u : Term) (region : ℕ) → IsTermFor old t u → t.op ≢ In → SharesOrAdds old new u region → GrowsIn region old new 1 (term_size old t)
SharesOrAdds-grows_in old new t u region f other (inl (absent, e)) = record {
  added = entry_of u region ∷ [];
  appended = e;
  few_nodes = omega arith;
  few_gates = SharesOrAdds-size old new t u region f (inl (absent, e));
  made = All-push (IsMadeIn region) [] (entry_of u region) (λ k d h. absurd (omega arith)) (f.made other, refl);
}
SharesOrAdds-grows_in old new t u region f other (inr (here, e)) = record {
  added = [];
  appended = e ∙ sym (append-nil old);
  few_nodes = omega arith;
  few_gates = SharesOrAdds-size old new t u region f (inr (here, e));
  made = λ k d h. absurd (omega arith);
}

-- ---- stops at the limit

-- a call that stops after others have grown the graph
pub StopsWithin-after : (old mid new : List Entry) (nodes gates more most : ℕ) (e : GraphFault) → Grows old mid nodes gates → StopsWithin mid new more e → nodes + more ≤ most → StopsWithin old new most e
StopsWithin-after old mid new nodes gates more most (NodeLimit limit) f s few =
    (s.0, s.1, omega (arith, s.2, f.few_nodes, ap length f.appended, length-append old f.added))
StopsWithin-after old mid new nodes gates more most Memory f s few = tt
