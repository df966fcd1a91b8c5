-- Inputs as nodes of a graph.
use Rattle.std.proofs.Common.{inl, inr, Result, Ok, Err, IfOk, ◌≡◌, ℕ, zero, suc, ◌+◌, ◌≤◌, ◌<◌, List, [], ◌∷◌, ◌++◌, Some, length, get_or, slice_get, map, ap, subst, sym, refl, ◌∙◌, arith}
use Rattle.std.proofs.lemmas.List.{length-map}
use Rattle.std.proofs.lemmas.List.Elements.{All-push}
use Rattle.std.proofs.lemmas.Option.{slice_get_within, get_or_from_slice_get}
use Rattle.hy_bits.specs.declared.op.Op.TheVariants.{In}
use Rattle.hy_bits.specs.declared.width.Width.{Width}
use Rattle.hy_bits.specs.Words.{IsWord}
use Rattle.word_graph.specs.declared.entry.Entry.{Entry}
use Rattle.word_graph.specs.declared.entry.Node.{Node}
use Rattle.word_graph.specs.declared.entry.Term.{Term}
use Rattle.word_graph.specs.declared.graph.GraphFault.{GraphFault}
use Rattle.word_graph.specs.Answer.{SharesOrAdds}
use Rattle.word_graph.specs.Growth.{Grows, StopsWithin}
use Rattle.word_graph.specs.Meaning.{HasInput, InputsFit, term_value, value, words}
use Rattle.word_graph.specs.Term.{called_term, entry_of, term_of, terms_of}
use Rattle.word_graph.proofs.GrowthLaws.{Grows-inputs, Grows-length, Grows-value, Grows-width}
use Rattle.word_nodes.specs.Nodes.{AllStand, IsFull, worth, worths}
use Rattle.word_nodes.proofs.NodeLaws.{IsFull_of}
use Rattle.node_lists.specs.Lists.{IsInput}

abbrev pub input_term : Width → ℕ → Term
input_term w number = called_term In w [] number

pub full : (old new : List Entry) (e : GraphFault) → StopsWithin old new 1 e → IsFull new e
full old new e s = IsFull_of old new 1 e s

term-at : (es : List Entry) (k : ℕ) (d : Entry) → get_or (terms_of es) k (term_of d) ≡ term_of (get_or es k d)
term-at [] k d = refl
term-at (e ∷ es) zero d = refl
term-at (e ∷ es) (suc k) d = term-at es k d

pub is_input : (old new : List Entry) (w : Width) (number : ℕ) (n : Node) → Grows old new 1 0 → slice_get (terms_of new) n.index ≡ Some (input_term w number)
    → ((ins : List ℕ) → InputsFit old ins → value new ins n.index ≡ term_value ins (words old ins) (input_term w number)) → IsInput new number n
is_input old new w number n grows at gives ins fit =
    let d = entry_of (input_term w number) 0 in
    let within : n.index < length new = omega (arith, slice_get_within (terms_of new) n.index (input_term w number) at, length-map new term_of) in
    let is : term_of (get_or new n.index d) ≡ input_term w number = sym (term-at new n.index d) ∙ get_or_from_slice_get (terms_of new) n.index (input_term w number) (term_of d) at in
    let has : HasInput ins In w number = subst (λ (t : Term). HasInput ins t.op t.width t.number) is (fit n.index d within) in
    (has.0, gives ins (Grows-inputs old new 1 0 grows ins fit))

pub still_fit : (old new : List Entry) (w : Width) (number : ℕ) → SharesOrAdds old new (input_term w number) 0 → (ins : List ℕ) → InputsFit old ins → number < length ins → IsWord w (get_or ins number 0) → InputsFit new ins
still_fit old new w number (inl (absent, e)) ins fit within word =
    subst (λ (es : List Entry). InputsFit es ins) (sym e) (All-push (λ (e : Entry). HasInput ins e.op e.width e.number) old (entry_of (input_term w number) 0) fit (within, word))
still_fit old new w number (inr (here, e)) ins fit within word = subst (λ (es : List Entry). InputsFit es ins) (sym e) fit

pub of_both : (r : Result Node GraphFault) (P Q R : Node → Type 0) → ((n : Node) → P n → Q n → R n) → IfOk r P → IfOk r Q → IfOk r R
of_both (Ok n) P Q R f p q = f n p q
of_both (Err e) P Q R f p q = tt

-- ---- lists of nodes while a graph grows

module _ {old new : List Entry} {nodes gates : ℕ} (f : Grows old new nodes gates) where
  pub AllStand-grown : (ws : List Width) (ns : List Node) → AllStand old ws ns → AllStand new ws ns
  AllStand-grown [] [] h = tt
  AllStand-grown [] (n ∷ ns) h = absurd h
  AllStand-grown (w ∷ ws) [] h = absurd h
  AllStand-grown (w ∷ ws) (n ∷ ns) h =
      (record { within = omega (arith, h.0.within, Grows-length old new nodes gates f); width = Grows-width old new nodes gates f n.index h.0.within ∙ h.0.width }, AllStand-grown ws ns h.1)

  pub worths-grown : (ins : List ℕ) (ws : List Width) (ns : List Node) → AllStand old ws ns → worths new ins ns ≡ worths old ins ns
  worths-grown ins [] [] h = refl
  worths-grown ins [] (n ∷ ns) h = absurd h
  worths-grown ins (w ∷ ws) [] h = absurd h
  worths-grown ins (w ∷ ws) (n ∷ ns) h =
      ap (λ (x : ℕ). x ∷ worths new ins ns) (Grows-value old new nodes gates f ins n.index h.0.within) ∙ ap (λ (xs : List ℕ). worth old ins n ∷ xs) (worths-grown ins ws ns h.1)
