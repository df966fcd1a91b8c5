-- Laws of what a graph computes: nodes that are appended change no earlier value, and what nodes carry fits their widths.
use Rattle.std.proofs.Common.{◌≡◌, ℕ, zero, suc, ◌+◌, ◌<◌, List, [], ◌∷◌, ◌++◌, get_or, map, length, Some, slice_get, refl, sym, ap, ◌∙◌, subst, arith, zero-add, append_assoc}
use Rattle.std.specs.List.{All}
use Rattle.std.proofs.lemmas.List.Elements.{All-push}
use Rattle.std.proofs.lemmas.List.{append-nil, get_or_append_left, get_or_push, length_push, map-append, length-map}
use Rattle.std.proofs.Math.ListN.{get_or-map}
use Rattle.hy_bits.specs.declared.width.Width.{Width}
use Rattle.hy_bits.specs.declared.width.Width.TheVariants.{W1}
use Rattle.hy_bits.specs.Op.{op_value, IsTakenBy}
use Rattle.hy_bits.specs.Words.{IsWord}
use Rattle.hy_bits.proofs.WordLaws.{op_value-word}
use Rattle.word_graph.specs.declared.entry.Entry.{Entry}
use Rattle.word_graph.specs.declared.entry.Term.{Term}
use Rattle.word_graph.specs.Term.{arity, argument, term_of, width_at}
use Rattle.word_graph.specs.Meaning.{Word, word_at, first_operand, term_value, run, words, value, value_over, IsTakenOver, HasInput, InputsFit}
use Rattle.word_graph.specs.Shape.{FitsAfter, IsEntryAfter, AreEntries, IsGraph, constant_at}
use Rattle.word_graph.proofs.OpLaws.{IsTakenBy-fits, op_value-used, first_operand-used, first_operand-argument, first_operand-word}
use Rattle.word_graph.proofs.EntryLaws.{constant_at-some}

-- what an entry carries, over what the nodes before it carry
abbrev pub word_of_entry : List ℕ → List Word → Entry → Word
word_of_entry ins ws e = record { width = e.width; value = term_value ins ws (term_of e) }

-- ---- runs

module _ (ins : List ℕ) where
  pub length-run : (ws : List Word) (es : List Entry) → length (run ins ws es) ≡ length ws + length es
  unfolding run
  length-run ws [] = omega arith
  length-run ws (e ∷ es) = omega (arith, length-run (ws ++ word_of_entry ins ws e ∷ []) es, length_push ws (word_of_entry ins ws e))

  pub run-push : (ws : List Word) (es : List Entry) (e : Entry) → run ins ws (es ++ e ∷ []) ≡ run ins ws es ++ word_of_entry ins (run ins ws es) e ∷ []
  unfolding run
  run-push ws [] e = refl
  run-push ws (x ∷ es) e = run-push (ws ++ word_of_entry ins ws x ∷ []) es e

  pub run-append : (ws : List Word) (es fs : List Entry) → run ins ws (es ++ fs) ≡ run ins (run ins ws es) fs
  unfolding run
  run-append ws [] fs = refl
  run-append ws (e ∷ es) fs = run-append (ws ++ word_of_entry ins ws e ∷ []) es fs

  -- the nodes that are there keep what they carry
  pub word_at-run : (ws : List Word) (es : List Entry) (k : ℕ) → k < length ws → word_at (run ins ws es) k ≡ word_at ws k
  unfolding run
  word_at-run ws [] k h = refl
  word_at-run ws (e ∷ es) k h =
      word_at-run (ws ++ word_of_entry ins ws e ∷ []) es k (omega (arith, length_push ws (word_of_entry ins ws e)))
      ∙ get_or_append_left ws (word_of_entry ins ws e ∷ []) _ k h

  -- a term's value depends on its arguments alone
  pub term_value-same : (ws vs : List Word) (t : Term) → ((k : ℕ) → k < arity t.op → word_at ws (argument t k) ≡ word_at vs (argument t k)) → term_value ins ws t ≡ term_value ins vs t
  term_value-same ws vs t same =
      let first : first_operand t.op (get_or ins t.number 0) t.number (word_at ws (argument t 0)).value ≡ first_operand t.op (get_or ins t.number 0) t.number (word_at vs (argument t 0)).value =
      first_operand-used t.op (get_or ins t.number 0) t.number _ _ (λ h. ap (λ (w : Word). w.value) (same 0 h)) in
      ap (λ (a : ℕ). op_value t.op t.width (word_at ws (argument t 0)).width a (word_at ws (argument t 1)).value (word_at ws (argument t 2)).value) first
      ∙ op_value-used t.op t.width _ _ _ _ _ _ _
      (λ h. ap (λ (w : Word). w.width) (same 0 h)) (λ h. ap (λ (w : Word). w.value) (same 1 h)) (λ h. ap (λ (w : Word). w.value) (same 2 h))

  -- each node carries the value of its term, over what all nodes carry
  pub word_at-entry : (before : List Entry) (ws : List Word) (es : List Entry) (k : ℕ) (e : Entry) → AreEntries before es → length ws ≡ length before → slice_get es k ≡ Some e →
      word_at (run ins ws es) (length ws + k) ≡ word_of_entry ins (run ins ws es) e
  unfolding run
  word_at-entry before ws [] k e h long s = absurd (cc)
  word_at-entry before ws (x ∷ es) zero e h long s =
      let same : x ≡ e = cc in
      let grown : List Word = ws ++ word_of_entry ins ws x ∷ [] in
      let longer : length grown ≡ length ws + 1 = length_push ws (word_of_entry ins ws x) in
      let value_same : term_value ins ws (term_of x) ≡ term_value ins (run ins ws (x ∷ es)) (term_of x) =
      term_value-same ws (run ins ws (x ∷ es)) (term_of x) (λ k used. sym (word_at-run ws (x ∷ es) (argument (term_of x) k) (omega (arith, h.0.fits.used k used)))) in
      word_at-run grown es (length ws + 0) (omega arith)
      ∙ get_or_push ws (word_of_entry ins ws x) _ (length ws + 0) (omega arith)
      ∙ ap (λ (v : ℕ). let w : Word = record { width = x.width; value = v } in w) value_same
      ∙ ap (λ (v : Entry). word_of_entry ins (run ins ws (x ∷ es)) v) same
  word_at-entry before ws (x ∷ es) (suc k) e h long s =
      let grown : List Word = ws ++ word_of_entry ins ws x ∷ [] in
      let place : length ws + suc k ≡ length grown + k = omega (arith, length_push ws (word_of_entry ins ws x)) in
      ap (λ (i : ℕ). word_at (run ins grown es) i) place
      ∙ word_at-entry (before ++ x ∷ []) grown es k e h.1 (omega (arith, length_push ws (word_of_entry ins ws x), length_push before x)) s

-- ---- what nodes carry fits their widths

-- these nodes carry words of their widths
pub record Carries (es : List Entry) (ws : List Word) : Type 0 where
  pub widths : map (λ (w : Word). w.width) ws ≡ map (λ (e : Entry). e.width) es
  pub fit : All (λ (w : Word). IsWord w.width w.value) ws

pub Carries-length : (es : List Entry) (ws : List Word) → Carries es ws → length ws ≡ length es
Carries-length es ws c = sym (length-map ws (λ (w : Word). w.width)) ∙ ap length c.widths ∙ length-map es (λ (e : Entry). e.width)

pub Carries-width : (es : List Entry) (ws : List Word) (k : ℕ) → Carries es ws → (word_at ws k).width ≡ width_at es k
Carries-width es ws k c = sym (get_or-map (λ (w : Word). w.width) ws k (record { width = W1; value = 0 })) ∙ ap (λ (l : List Width). get_or l k W1) c.widths

pub Carries-word : (es : List Entry) (ws : List Word) (k : ℕ) → Carries es ws → k < length es → IsWord (width_at es k) (word_at ws k).value
Carries-word es ws k c h =
    subst (λ (w : Width). IsWord w (word_at ws k).value) (Carries-width es ws k c) (c.fit k _ (omega (arith, Carries-length es ws c)))

module _ (ins : List ℕ) where
  -- what an operation is applied to, it takes
  pub term_value-taken : (es : List Entry) (ws : List Word) (t : Term) → Carries es ws → FitsAfter es t → HasInput ins t.op t.width t.number →
      IsTakenBy t.op t.width (width_at es (argument t 0)) (first_operand t.op (get_or ins t.number 0) t.number (word_at ws (argument t 0)).value) (word_at ws (argument t 1)).value (word_at ws (argument t 2)).value
  term_value-taken es ws t c f i =
      IsTakenBy-fits t.op t.width (width_at es (argument t 0)) (width_at es (argument t 1)) (width_at es (argument t 2)) _ (word_at ws (argument t 1)).value (word_at ws (argument t 2)).value f.widths
      (λ none. first_operand-word t.op t.width ins t.number (word_at ws (argument t 0)).value f.number i none)
      (λ used. subst (λ (v : ℕ). IsWord (width_at es (argument t 0)) v) (sym (first_operand-argument t.op (get_or ins t.number 0) t.number (word_at ws (argument t 0)).value used)) (Carries-word es ws (argument t 0) c (f.used 0 used)))
      (λ used. Carries-word es ws (argument t 1) c (f.used 1 used))
      (λ used. Carries-word es ws (argument t 2) c (f.used 2 used))

  -- its value is a word of its width
  pub term_value-word : (es : List Entry) (ws : List Word) (t : Term) → Carries es ws → FitsAfter es t → HasInput ins t.op t.width t.number → IsWord t.width (term_value ins ws t)
  term_value-word es ws t c f i =
      rw (Carries-width es ws (argument t 0) c)
      (op_value-word t.op t.width (width_at es (argument t 0)) (first_operand t.op (get_or ins t.number 0) t.number (word_at ws (argument t 0)).value) (word_at ws (argument t 1)).value (word_at ws (argument t 2)).value (term_value-taken es ws t c f i))

  pub Carries-push : (es : List Entry) (ws : List Word) (e : Entry) → Carries es ws → IsEntryAfter es e → HasInput ins e.op e.width e.number → Carries (es ++ e ∷ []) (ws ++ word_of_entry ins ws e ∷ [])
  Carries-push es ws e c f i = record {
    widths =
        map-append (λ (w : Word). w.width) ws (word_of_entry ins ws e ∷ [])
        ∙ ap (λ (l : List Width). l ++ e.width ∷ []) c.widths
        ∙ sym (map-append (λ (v : Entry). v.width) es (e ∷ []));
    fit = All-push (λ (w : Word). IsWord w.width w.value) ws (word_of_entry ins ws e) c.fit (term_value-word es ws (term_of e) c f.fits i);
  }

  All-tail : (e : Entry) (es : List Entry) → InputsFit (e ∷ es) ins → InputsFit es ins
  All-tail e es i k d h = i (suc k) d (omega arith)

  pub Carries-run : (before es : List Entry) (ws : List Word) → AreEntries before es → InputsFit es ins → Carries before ws → Carries (before ++ es) (run ins ws es)
  unfolding run
  Carries-run before [] ws h i c = rw append-nil c
  Carries-run before (e ∷ es) ws h i c =
      rw append_assoc at (Carries-run (before ++ e ∷ []) es (ws ++ word_of_entry ins ws e ∷ []) h.1 (All-tail e es i) (Carries-push before ws e c h.0 (i 0 e (omega arith))))

-- ---- a whole graph

module _ (es : List Entry) (ins : List ℕ) (graph : IsGraph es) (inputs : InputsFit es ins) where
  pub carries : Carries es (words es ins)
  carries = Carries-run ins [] es [] graph.entries inputs (record { widths = refl; fit = λ k d h. absurd (omega arith) })

  -- each value is a word
  pub value-word : (k : ℕ) → k < length es → IsWord (width_at es k) (value es ins k)
  value-word k h = Carries-word es (words es ins) k carries h

module _ (es : List Entry) (ins : List ℕ) (graph : IsGraph es) where
  pub value-entry : (k : ℕ) (e : Entry) → slice_get es k ≡ Some e → value es ins k ≡ term_value ins (words es ins) (term_of e)
  value-entry k e s = ap (λ (i : ℕ). value es ins i) (sym (zero-add k)) ∙ ap (λ (w : Word). w.value) (word_at-entry ins [] [] es k e graph.entries refl s)

  -- a constant has its number
  pub value-constant : (k n : ℕ) → constant_at es k ≡ Some n → value es ins k ≡ n
  value-constant k n h =
      let c = constant_at-some es k n h in
      value-entry k c.0 c.1 ∙ rw c.2 c.3

-- ---- entries and values apart

-- the values of nodes
abbrev pub carried : List Word → List ℕ
carried ws = map (λ (w : Word). w.value) ws

carried-at : (ws : List Word) (k : ℕ) → get_or (carried ws) k 0 ≡ (word_at ws k).value
carried-at ws k = get_or-map (λ (w : Word). w.value) ws k (record { width = W1; value = 0 })

module _ (ins : List ℕ) (es : List Entry) (ws : List Word) (t : Term) (c : Carries es ws) where
  pub value_over-carried : value_over es (carried ws) ins t ≡ term_value ins ws t
  value_over-carried =
      rw (carried-at ws (argument t 0), carried-at ws (argument t 1), carried-at ws (argument t 2))
      (ap (λ (v : Width). op_value t.op t.width v (first_operand t.op (get_or ins t.number 0) t.number (word_at ws (argument t 0)).value) (word_at ws (argument t 1)).value (word_at ws (argument t 2)).value) (sym (Carries-width es ws (argument t 0) c)))

  pub IsTakenOver-carried : FitsAfter es t → HasInput ins t.op t.width t.number → IsTakenOver es (carried ws) ins t
  IsTakenOver-carried f i = rw (carried-at ws (argument t 0), carried-at ws (argument t 1), carried-at ws (argument t 2)) (term_value-taken ins es ws t c f i)
