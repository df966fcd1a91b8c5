-- A graph with some nodes left out: its nodes keep their values, and its size is no greater.
use Rattle.std.proofs.Common.{◌≡◌, ℕ, zero, suc, ◌+◌, ◌<◌, ◌≤◌, List, [], ◌∷◌, length, take, get_or, Option, Some, None, slice_get, refl, sym, ap, ◌∙◌, subst, arith, zero-add, add-one}
use Rattle.std.specs.List.{range_with_len, sum_by}
use Rattle.std.proofs.lemmas.List.{length-take-le}
use Rattle.std.proofs.lemmas.List.Sums.{sum_by-cons}
use Rattle.std.proofs.lemmas.Option.{slice_get-get_or, slice_get_within}
use Rattle.hy_bits.specs.declared.op.Op.{Op}
use Rattle.hy_bits.specs.declared.op.Op.TheVariants.{In}
use Rattle.hy_bits.specs.declared.width.Width.{Width}
use Rattle.hy_bits.specs.declared.width.Width.TheVariants.{W1}
use Rattle.hy_bits.specs.Op.{op_value}
use Rattle.hy_bits.specs.Sizes.{operation_size}
use Rattle.word_graph.specs.declared.entry.Entry.{Entry}
use Rattle.word_graph.specs.declared.entry.Term.{Term}
use Rattle.word_graph.specs.Term.{arity, argument, term_of, width_at}
use Rattle.word_graph.specs.Meaning.{Word, word_at, first_operand, term_value, words, value, run}
use Rattle.word_graph.specs.Shape.{IsGraph}
use Rattle.word_graph.specs.Size.{term_size, graph_size, entry_size, size_at}
use Rattle.word_graph.specs.Part.{Ascends, IsMoved, IsPart}
use Rattle.word_graph.proofs.OpLaws.{op_value-used, first_operand-used}
use Rattle.word_graph.proofs.EntryLaws.{AreEntries-at, width_at-get}
use Rattle.word_graph.proofs.RunLaws.{word_of_entry, word_at-entry}
use Rattle.word_graph.proofs.SizeLaws.{graph_size-sum, operation_size-used, sizes-le}

-- an operation's value depends on its arguments alone
operation-same : (op : Op) (w : Width) (input n : ℕ) (a b c x y z : Word) → (0 < arity op → a ≡ x) → (1 < arity op → b ≡ y) → (2 < arity op → c ≡ z) →
    op_value op w a.width (first_operand op input n a.value) b.value c.value ≡ op_value op w x.width (first_operand op input n x.value) y.value z.value
operation-same op w input n a b c x y z p q r =
    ap (λ (u : ℕ). op_value op w a.width u b.value c.value) (first_operand-used op input n a.value x.value (λ h. ap (λ (v : Word). v.value) (p h)))
    ∙ op_value-used op w _ _ _ _ _ _ _ (λ h. ap (λ (v : Word). v.width) (p h)) (λ h. ap (λ (v : Word). v.value) (q h)) (λ h. ap (λ (v : Word). v.value) (r h))

-- the sum over the first numbers of what a list has at them is that over the list
sum_by-same : (f g : ℕ → ℕ) (n a : ℕ) (ks : List ℕ) → n ≡ length ks → ((i : ℕ) → i < n → f (a + i) ≡ g (get_or ks i 0)) → sum_by f (range_with_len a n) ≡ sum_by g ks
sum_by-same f g zero a [] count same = refl
sum_by-same f g zero a (k ∷ ks) count same = absurd (omega (arith, count))
sum_by-same f g (suc n) a [] count same = absurd (omega (arith, count))
sum_by-same f g (suc n) a (k ∷ ks) count same =
    let first : f a ≡ g k = ap f (plus_zero a) ∙ same 0 (omega arith) in
    let rest = sum_by-same f g n (a + 1) ks (omega (arith, count)) (λ i within. ap f (one_more a i) ∙ same (suc i) (omega arith)) in
    sum_by-cons f a (range_with_len (a + 1) n) ∙ ap (λ m. m + sum_by f (range_with_len (a + 1) n)) first ∙ ap (λ m. g k + m) rest ∙ sym (sum_by-cons g k ks)
  where
    plus_zero : (a : ℕ) → a ≡ a + 0
    plus_zero a = omega arith

    one_more : (a i : ℕ) → a + 1 + i ≡ a + suc i
    one_more a i = omega arith

-- read only within a list, for which it stands in
no_entry : Entry
no_entry = record { op = In; width = W1; args = []; number = 0; region = 0 }

module _ (old new : List Entry) (places : List ℕ) (part : IsPart old new places) (old_graph : IsGraph old) (new_graph : IsGraph new) where
  -- an argument of a node of the part stands before it
  earlier : (j : ℕ) (e : Entry) → slice_get new j ≡ Some e → (k : ℕ) → k < arity e.op → argument (term_of e) k < j
  earlier j e s k used =
      let entry = AreEntries-at [] new j e new_graph.entries s in
      let within : j < length new = slice_get_within new j e s in
      omega (arith, entry.fits.used k used, length-take-le j new (omega arith))

  module _ (ins : List ℕ) where
    moved-word : (j : ℕ) (e d : Entry) → IsMoved places d e → ((k : ℕ) → k < arity e.op → word_at (words new ins) (argument (term_of e) k) ≡ word_at (words old ins) (get_or places (argument (term_of e) k) 0)) →
        word_of_entry ins (words new ins) e ≡ word_of_entry ins (words old ins) d
    moved-word j e d m same =
        let there : (k : ℕ) → k < arity e.op → word_at (words new ins) (argument (term_of e) k) ≡ word_at (words old ins) (argument (term_of d) k) =
        λ k used. same k used ∙ ap (λ i. word_at (words old ins) i) (m.args k used) in
        let values_same : term_value ins (words new ins) (term_of e) ≡ term_value ins (words old ins) (term_of d) =
        operation-same e.op e.width (get_or ins e.number 0) e.number _ _ _ _ _ _ (there 0) (there 1) (there 2)
        ∙ ap (λ (op : Op). op_value op e.width (word_at (words old ins) (argument (term_of d) 0)).width (first_operand op (get_or ins e.number 0) e.number (word_at (words old ins) (argument (term_of d) 0)).value) (word_at (words old ins) (argument (term_of d) 1)).value (word_at (words old ins) (argument (term_of d) 2)).value) m.op
        ∙ ap (λ (w : Width). op_value d.op w (word_at (words old ins) (argument (term_of d) 0)).width (first_operand d.op (get_or ins e.number 0) e.number (word_at (words old ins) (argument (term_of d) 0)).value) (word_at (words old ins) (argument (term_of d) 1)).value (word_at (words old ins) (argument (term_of d) 2)).value) m.width
        ∙ ap (λ (n : ℕ). op_value d.op d.width (word_at (words old ins) (argument (term_of d) 0)).width (first_operand d.op (get_or ins n 0) n (word_at (words old ins) (argument (term_of d) 0)).value) (word_at (words old ins) (argument (term_of d) 1)).value (word_at (words old ins) (argument (term_of d) 2)).value) m.number in
        ap (λ (v : ℕ). let w : Word = record { width = e.width; value = v } in w) values_same
        ∙ ap (λ (u : Width). let w : Word = record { width = u; value = term_value ins (words old ins) (term_of d) } in w) m.width

    words-below : (n j : ℕ) → j < n → j < length new → word_at (words new ins) j ≡ word_at (words old ins) (get_or places j 0)
    words-below zero j less within = absurd (omega arith)
    words-below (suc n) j less within =
        let e = get_or new j no_entry in
        let s : slice_get new j ≡ Some e = slice_get-get_or new j no_entry within in
        let d = part.moved j e s in
        let at_new : word_at (words new ins) j ≡ word_of_entry ins (words new ins) e = ap (λ (i : ℕ). word_at (words new ins) i) (sym (zero-add j)) ∙ word_at-entry ins [] [] new j e new_graph.entries refl s in
        let at_old : word_at (words old ins) (get_or places j 0) ≡ word_of_entry ins (words old ins) d.0 = ap (λ (i : ℕ). word_at (words old ins) i) (sym (zero-add (get_or places j 0))) ∙ word_at-entry ins [] [] old (get_or places j 0) d.0 old_graph.entries refl d.1 in
        at_new
        ∙ moved-word j e d.0 d.2 (λ k used. words-below n (argument (term_of e) k) (omega (arith, earlier j e s k used)) (omega (arith, earlier j e s k used)))
        ∙ sym at_old

    -- each node of the part carries what it carried in the whole graph
    pub part-value : (j : ℕ) → j < length new → value new ins j ≡ value old ins (get_or places j 0)
    part-value j within = ap (λ (w : Word). w.value) (words-below (suc j) j (omega arith) within)

    pub part-width : (j : ℕ) → j < length new → (word_at (words new ins) j).width ≡ (word_at (words old ins) (get_or places j 0)).width
    part-width j within = ap (λ (w : Word). w.width) (words-below (suc j) j (omega arith) within)

  width-same : (j : ℕ) → j < length new → width_at new j ≡ width_at old (get_or places j 0)
  width-same j within =
      let e = get_or new j no_entry in
      let s : slice_get new j ≡ Some e = slice_get-get_or new j no_entry within in
      let d = part.moved j e s in
      width_at-get new j e s ∙ d.2.width ∙ sym (width_at-get old (get_or places j 0) d.0 d.1)

  size-same : (j : ℕ) → j < length new → size_at new j ≡ size_at old (get_or places j 0)
  size-same j within =
      let e = get_or new j no_entry in
      let s : slice_get new j ≡ Some e = slice_get-get_or new j no_entry within in
      let d = part.moved j e s in
      let there : (k : ℕ) → k < arity e.op → width_at new (argument (term_of e) k) ≡ width_at old (argument (term_of d.0) k) =
      λ k used. width-same (argument (term_of e) k) (omega (arith, earlier j e s k used)) ∙ ap (width_at old) (d.2.args k used) in
      ap (entry_size new) s
      ∙ operation_size-used e.op e.width _ _ _ _ (there 0) (there 1)
      ∙ ap (λ (op : Op). operation_size op e.width (width_at old (argument (term_of d.0) 0)) (width_at old (argument (term_of d.0) 1))) d.2.op
      ∙ ap (λ (w : Width). operation_size d.0.op w (width_at old (argument (term_of d.0) 0)) (width_at old (argument (term_of d.0) 1))) d.2.width
      ∙ sym (ap (entry_size old) d.1)

  -- the part has no greater size than the whole graph
  pub part-size : graph_size new ≤ graph_size old
  part-size =
      let sums : sum_by (size_at new) (range_with_len 0 (length new)) ≡ sum_by (size_at old) places =
      sum_by-same (size_at new) (size_at old) (length new) 0 places part.count (λ i within. ap (size_at new) (zero-add i) ∙ size-same i within) in
      omega (arith, graph_size-sum new new_graph, sums, sizes-le old places old_graph part.ascending)
