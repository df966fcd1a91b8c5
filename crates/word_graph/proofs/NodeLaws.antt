-- Laws of a call that asks for a node: what it takes fits, and what it answers has the value.
use Rattle.std.proofs.Common.{◌≡◌, inl, inr, ℕ, zero, suc, ◌+◌, ◌<◌, ◌≤◌, List, [], ◌∷◌, ◌++◌, length, Some, slice_get, refl, sym, ap, ◌∙◌, subst, arith}
use Rattle.std.proofs.lemmas.Option.{slice_get_within}
use Rattle.std.proofs.lemmas.List.{append-nil}
use Rattle.hy_bits.specs.declared.op.Op.{Op}
use Rattle.hy_bits.specs.declared.width.Width.{Width}
use Rattle.word_graph.specs.declared.entry.Entry.{Entry}
use Rattle.word_graph.specs.declared.entry.Node.{Node}
use Rattle.word_graph.specs.declared.entry.Term.{Term}
use Rattle.word_graph.specs.declared.folding.Outcome.{Outcome}
use Rattle.word_graph.specs.declared.folding.Outcome.TheVariants.{Known, Makes}
use Rattle.word_graph.specs.Term.{arity, Takes, argument, called_term, entry_of, terms_of, width_at}
use Rattle.word_graph.specs.Meaning.{Word, term_value, run, words, value, InputsFit}
use Rattle.word_graph.specs.Shape.{FitsAfter, IsGraph}
use Rattle.word_graph.specs.Folding.{reduced}
use Rattle.word_graph.specs.Answer.{SharesOrAdds}
use Rattle.word_graph.specs.Size.{graph_size, term_size}
use Rattle.word_graph.proofs.EntryLaws.{arity-three, entry_at-term, size_after-push, width_at-get}
use Rattle.word_graph.proofs.RunLaws.{length-run, run-append, word_at-run, term_value-same, value-entry}
use Rattle.word_graph.proofs.FoldLaws.{IsFor, IsPlaceFor, IsTermFor, reduced-for}

-- ---- what a call takes

module _ (es : List Entry) (op : Op) (w : Width) (n : ℕ) where
  taken_used : (nodes : List Node) → Takes es op w nodes n → (k : ℕ) → k < arity op → argument (called_term op w nodes n) k < length es
  taken_used (a ∷ more) t zero h = t.stand 0 a (omega arith)
  taken_used (a ∷ b ∷ more) t (suc zero) h = t.stand 1 a (omega arith)
  taken_used (a ∷ b ∷ c ∷ more) t (suc (suc zero)) h = t.stand 2 a (omega arith)
  taken_used nodes t (suc (suc (suc k))) h = absurd (omega (arith, arity-three op))
  taken_used [] t zero h = absurd (omega (arith, t.count))
  taken_used [] t (suc zero) h = absurd (omega (arith, t.count))
  taken_used [] t (suc (suc zero)) h = absurd (omega (arith, t.count))
  taken_used (a ∷ []) t (suc zero) h = absurd (omega (arith, t.count))
  taken_used (a ∷ []) t (suc (suc zero)) h = absurd (omega (arith, t.count))
  taken_used (a ∷ b ∷ []) t (suc (suc zero)) h = absurd (omega (arith, t.count))

  taken_unused : (nodes : List Node) → Takes es op w nodes n → (k : ℕ) → arity op ≤ k → argument (called_term op w nodes n) k ≡ 0
  taken_unused [] t zero h = refl
  taken_unused [] t (suc zero) h = refl
  taken_unused [] t (suc (suc zero)) h = refl
  taken_unused [] t (suc (suc (suc k))) h = refl
  taken_unused (a ∷ []) t zero h = absurd (omega (arith, t.count))
  taken_unused (a ∷ []) t (suc zero) h = refl
  taken_unused (a ∷ []) t (suc (suc zero)) h = refl
  taken_unused (a ∷ []) t (suc (suc (suc k))) h = refl
  taken_unused (a ∷ b ∷ []) t zero h = absurd (omega (arith, t.count))
  taken_unused (a ∷ b ∷ []) t (suc zero) h = absurd (omega (arith, t.count))
  taken_unused (a ∷ b ∷ []) t (suc (suc zero)) h = refl
  taken_unused (a ∷ b ∷ []) t (suc (suc (suc k))) h = refl
  taken_unused (a ∷ b ∷ c ∷ more) t zero h = absurd (omega (arith, t.count))
  taken_unused (a ∷ b ∷ c ∷ more) t (suc zero) h = absurd (omega (arith, t.count))
  taken_unused (a ∷ b ∷ c ∷ more) t (suc (suc zero)) h = absurd (omega (arith, t.count))
  taken_unused (a ∷ b ∷ c ∷ more) t (suc (suc (suc k))) h = refl

  taken_three : (nodes : List Node) → length (called_term op w nodes n).args ≡ 3
  taken_three [] = refl
  taken_three (a ∷ []) = refl
  taken_three (a ∷ b ∷ []) = refl
  taken_three (a ∷ b ∷ c ∷ more) = refl

-- what a call takes fits where it stands
pub Takes-fits : (es : List Entry) (op : Op) (w : Width) (nodes : List Node) (n : ℕ) → Takes es op w nodes n → FitsAfter es (called_term op w nodes n)
Takes-fits es op w nodes n t = by nodes t
  where
    by : (nodes : List Node) → Takes es op w nodes n → FitsAfter es (called_term op w nodes n)
    by [] t = record { three = taken_three es op w n []; used = taken_used es op w n [] t; unused = taken_unused es op w n [] t; widths = t.widths; number = t.number }
    by (a ∷ []) t = record { three = taken_three es op w n (a ∷ []); used = taken_used es op w n (a ∷ []) t; unused = taken_unused es op w n (a ∷ []) t; widths = t.widths; number = t.number }
    by (a ∷ b ∷ []) t = record { three = taken_three es op w n (a ∷ b ∷ []); used = taken_used es op w n (a ∷ b ∷ []) t; unused = taken_unused es op w n (a ∷ b ∷ []) t; widths = t.widths; number = t.number }
    by (a ∷ b ∷ c ∷ more) t = record { three = taken_three es op w n (a ∷ b ∷ c ∷ more); used = taken_used es op w n (a ∷ b ∷ c ∷ more) t; unused = taken_unused es op w n (a ∷ b ∷ c ∷ more) t; widths = t.widths; number = t.number }

-- ---- what a call answers

pub known_place : (es : List Entry) (t : Term) (k : ℕ) → IsGraph es → FitsAfter es t → Known k ≡ reduced es t → IsPlaceFor es t k
known_place es t k g f e = subst (λ (o : Outcome). IsFor es t o) (sym e) (reduced-for es t g f)

pub made_term : (es : List Entry) (t u : Term) → IsGraph es → FitsAfter es t → Makes u ≡ reduced es t → IsTermFor es t u
made_term es t u g f e = subst (λ (o : Outcome). IsFor es t o) (sym e) (reduced-for es t g f)

-- the new list is the old one with more at its end
pub SharesOrAdds-grown : (old new : List Entry) (u : Term) (region : ℕ) → SharesOrAdds old new u region → (more : List Entry) × (new ≡ old ++ more)
SharesOrAdds-grown old new u region (inl (absent, e)) = (entry_of u region ∷ [], e)
SharesOrAdds-grown old new u region (inr (here, e)) = ([], e ∙ sym (append-nil old))

pub SharesOrAdds-size : (old new : List Entry) (t u : Term) (region : ℕ) → IsTermFor old t u → SharesOrAdds old new u region → graph_size new ≤ graph_size old + term_size old t
SharesOrAdds-size old new t u region f (inl (absent, e)) = rw e (omega (arith, size_after-push [] old (entry_of u region), f.size))
SharesOrAdds-size old new t u region f (inr (here, e)) = rw e (omega arith)

-- a node that has the term has its width and, over the nodes before, its value
pub made-width : (old new : List Entry) (t u : Term) (k : ℕ) → IsTermFor old t u → slice_get (terms_of new) k ≡ Some u → width_at new k ≡ t.width
made-width old new t u k f s =
    let e = entry_at-term new k u s in
    width_at-get new k e.0 e.1 ∙ ap (λ (v : Term). v.width) e.2 ∙ f.width

pub made-value : (old new more : List Entry) (t u : Term) (k : ℕ) → IsGraph new → new ≡ old ++ more → IsTermFor old t u → slice_get (terms_of new) k ≡ Some u →
    (ins : List ℕ) → InputsFit old ins → value new ins k ≡ term_value ins (words old ins) t
made-value old new more t u k g grown f s ins i =
    let e = entry_at-term new k u s in
    let longer : words new ins ≡ run ins (words old ins) more = ap (λ (es : List Entry). words es ins) grown ∙ run-append ins [] old more in
    value-entry new ins g k e.0 e.1
    ∙ ap (λ (v : Term). term_value ins (words new ins) v) e.2
    ∙ ap (λ (ws : List Word). term_value ins ws u) longer
    ∙ term_value-same ins (run ins (words old ins) more) (words old ins) u (λ j used. word_at-run ins (words old ins) more (argument u j) (omega (arith, length-run ins [] old, f.fits.used j used)))
    ∙ f.same ins i

pub made-stands : (new : List Entry) (u : Term) (k : ℕ) → slice_get (terms_of new) k ≡ Some u → k < length new
made-stands new u k s = let e = entry_at-term new k u s in slice_get_within new k e.0 e.1
