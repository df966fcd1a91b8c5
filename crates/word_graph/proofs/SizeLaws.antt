-- The size of a graph is the sum of its nodes' sizes, and that of some of its nodes is no greater.
use Rattle.std.proofs.Common.{◌≡◌, ◌⊎◌, inl, inr, ℕ, zero, suc, ◌+◌, ◌*◌, ◌<◌, ◌≤◌, Bool, not, List, [], ◌∷◌, ◌++◌, map, length, filter, take, get_or, Option, Some, None, slice_get, refl, sym, ap, ◌∙◌, subst, arith, append_assoc, zero-add, length-append}
use Rattle.std.specs.List.{range_with_len, sum_by}
use Rattle.std.proofs.lemmas.List.{append-nil, get_or_append_left, map-append, length-map, length_push}
use Rattle.std.proofs.lemmas.List.Sums.{sum_by-cons}
use Rattle.std.proofs.lemmas.List.Filters.{sum_by-filter_both}
use Rattle.hy_bits.specs.declared.op.Op.{Op}
use Rattle.hy_bits.specs.declared.op.Op.TheVariants.{Shl, ShrU, ShrS, LtU, LtS, Eq}
use Rattle.hy_bits.specs.declared.width.Width.{Width}
use Rattle.hy_bits.specs.declared.width.Width.TheVariants.{W1}
use Rattle.hy_bits.specs.Sizes.{operation_size, sum_size}
use Rattle.hy_bits.specs.Words.{bits}
use Rattle.word_graph.specs.declared.entry.Entry.{Entry}
use Rattle.word_graph.specs.declared.entry.Term.{Term}
use Rattle.word_graph.specs.Term.{arity, argument, term_of, width_at}
use Rattle.word_graph.specs.Shape.{FitsAfter, AreEntries, IsGraph}
use Rattle.word_graph.specs.Size.{term_size, size_after, graph_size, entry_size, size_at}
use Rattle.word_graph.specs.Part.{Ascends}
use Rattle.word_graph.proofs.EntryLaws.{width_at-take}

-- ---- a term's size depends on its arguments alone

pub operation_size-used : (op : Op) (w x y u v : Width) → (0 < arity op → x ≡ u) → (1 < arity op → y ≡ v) → operation_size op w x y ≡ operation_size op w u v
operation_size-used Shl w x y u v p q = ap (λ z. sum_size w + 4 * bits z) (q (omega arith))
operation_size-used ShrU w x y u v p q = ap (λ z. sum_size w + 4 * bits z) (q (omega arith))
operation_size-used ShrS w x y u v p q = ap (λ z. sum_size w + 4 * bits z) (q (omega arith))
operation_size-used LtU w x y u v p q = ap sum_size (p (omega arith))
operation_size-used LtS w x y u v p q = ap sum_size (p (omega arith))
operation_size-used Eq w x y u v p q = ap (λ z. 4 * bits z) (p (omega arith))
operation_size-used _ w x y u v p q = refl

-- after further nodes a term has the size that it had before them
pub term_size-append : (es more : List Entry) (t : Term) → FitsAfter es t → term_size (es ++ more) t ≡ term_size es t
term_size-append es more t f =
    operation_size-used t.op t.width _ _ _ _ (λ used. same (argument t 0) (f.used 0 used)) (λ used. same (argument t 1) (f.used 1 used))
  where
    same : (k : ℕ) → k < length es → width_at (es ++ more) k ≡ width_at es k
    same k within =
        ap (λ (ws : List Width). get_or ws k W1) (map-append (λ (e : Entry). e.width) es more)
        ∙ get_or_append_left (map (λ (e : Entry). e.width) es) (map (λ (e : Entry). e.width) more) W1 k (omega (arith, length-map es (λ (e : Entry). e.width)))

-- a term has in the nodes before it the size that it has in the whole list
pub term_size-take : (es : List Entry) (n : ℕ) (t : Term) → FitsAfter (take n es) t → term_size (take n es) t ≡ term_size es t
term_size-take es n t f =
    operation_size-used t.op t.width _ _ _ _ (λ used. sym (width_at-take es n (argument t 0) (f.used 0 used))) (λ used. sym (width_at-take es n (argument t 1) (f.used 1 used)))

-- ---- the size of a graph as a sum over its nodes

size_after-entries : (before es : List Entry) → AreEntries before es → size_after before es ≡ sum_by (λ e. term_size (before ++ es) (term_of e)) es
size_after-entries before [] h = refl
size_after-entries before (e ∷ es) h =
    let rest = rw append_assoc at (size_after-entries (before ++ e ∷ []) es h.1) in
    let first : term_size before (term_of e) ≡ term_size (before ++ e ∷ es) (term_of e) = sym (term_size-append before (e ∷ es) (term_of e) h.0.fits) in
    ap (λ n. n + size_after (before ++ e ∷ []) es) first
    ∙ ap (λ n. term_size (before ++ e ∷ es) (term_of e) + n) rest
    ∙ sym (sum_by-cons (λ v. term_size (before ++ e ∷ es) (term_of v)) e es)

module _ {X : Type 0} (f : Option X → ℕ) where
  slice_get-at : (before : List X) (x : X) (after : List X) → slice_get (before ++ x ∷ after) (length before) ≡ Some x
  slice_get-at [] x after = refl
  slice_get-at (y ∷ before) x after = slice_get-at before x after

  sum_by-places : (before xs : List X) → sum_by (λ x. f (Some x)) xs ≡ sum_by (λ k. f (slice_get (before ++ xs) k)) (range_with_len (length before) (length xs))
  sum_by-places before [] = refl
  sum_by-places before (x ∷ xs) =
      let one : length (before ++ x ∷ []) ≡ length before + 1 = length_push before x in
      let rest = rw (append_assoc, one) at (sum_by-places (before ++ x ∷ []) xs) in
      sum_by-cons (λ v. f (Some v)) x xs
      ∙ ap (λ n. f (Some x) + n) rest
      ∙ ap (λ o. f o + sum_by (λ k. f (slice_get (before ++ x ∷ xs) k)) (range_with_len (length before + 1) (length xs))) (sym (slice_get-at before x xs))
      ∙ sym (sum_by-cons (λ k. f (slice_get (before ++ x ∷ xs) k)) (length before) (range_with_len (length before + 1) (length xs)))

-- the size of a graph is the sum of its nodes' sizes
pub graph_size-sum : (es : List Entry) → IsGraph es → graph_size es ≡ sum_by (size_at es) (range_with_len 0 (length es))
graph_size-sum es graph = size_after-entries [] es graph.entries ∙ sum_by-places (entry_size es) [] es

-- ---- some of the places

-- those that pass a test
pub sum_by-filter-le : {X : Type 0} (p : X → Bool) (f : X → ℕ) (xs : List X) → sum_by f (filter p xs) ≤ sum_by f xs
sum_by-filter-le p f xs = omega (arith, sum_by-filter_both p (λ x. not (p x)) (λ x. refl) f xs)

-- those of an ascending list
pub sum_by-ascending-le : (f : ℕ → ℕ) (d a : ℕ) (ks : List ℕ) → Ascends a (a + d) ks → sum_by f ks ≤ sum_by f (range_with_len a d)
sum_by-ascending-le f zero a [] up = omega arith
sum_by-ascending-le f zero a (k ∷ ks) up = absurd (omega (arith, up.0, up.1))
sum_by-ascending-le f (suc d) a [] up = omega arith
sum_by-ascending-le f (suc d) a (k ∷ ks) up = elim (first_or_later a k up.0) [
  | inl here ↦
      let rest : Ascends (a + 1) (a + 1 + d) ks = moved (suc k) (a + suc d) (a + 1) (a + 1 + d) ks (omega arith) (ends a d) up.2 in
      let few = sum_by-ascending-le f d (a + 1) ks rest in
      let same : f k ≡ f a = ap f (sym here) in
      omega (arith, few, same, sum_by-cons f k ks, sum_by-cons f a (range_with_len (a + 1) d))
  | inr later ↦
      let few = sum_by-ascending-le f d (a + 1) (k ∷ ks) (later, omega (arith, up.1), moved (suc k) (a + suc d) (suc k) (a + 1 + d) ks refl (ends a d) up.2) in
      omega (arith, few, sum_by-cons f a (range_with_len (a + 1) d))
]
  where
    first_or_later : (a k : ℕ) → a ≤ k → (a ≡ k) ⊎ (a + 1 ≤ k)
    first_or_later a k le = grind arith

    ends : (a d : ℕ) → a + suc d ≡ a + 1 + d
    ends a d = omega arith

    moved : (a m b n : ℕ) (ks : List ℕ) → a ≡ b → m ≡ n → Ascends a m ks → Ascends b n ks
    moved a m b n ks p q up = subst (λ x. Ascends x n ks) p (subst (λ y. Ascends a y ks) q up)

-- the nodes at some places have no greater size than the graph
pub sizes-le : (es : List Entry) (ks : List ℕ) → IsGraph es → Ascends 0 (length es) ks → sum_by (size_at es) ks ≤ graph_size es
sizes-le es ks graph up =
    omega (arith, graph_size-sum es graph, sum_by-ascending-le (size_at es) (length es) 0 ks (subst (λ n. Ascends 0 n ks) (sym (zero-add (length es))) up))

-- those that pass a test, likewise
pub sizes-filter-le : (es : List Entry) (p : ℕ → Bool) → IsGraph es → sum_by (size_at es) (filter p (range_with_len 0 (length es))) ≤ graph_size es
sizes-filter-le es p graph = omega (arith, graph_size-sum es graph, sum_by-filter-le p (size_at es) (range_with_len 0 (length es)))
