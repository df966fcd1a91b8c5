-- Laws of the cut: its passes step by step, and that their results are its pieces.
use Rattle.std.proofs.Common.{◌≡◌, ◌≢◌, ◌⊎◌, inl, inr, ℕ, zero, suc, ◌+◌, ◌-◌, ◌*◌, ◌^◌, ◌<◌, ◌≤◌, Bool, true, false, not, ◌||◌, cond, eqb, List, [], ◌∷◌, ◌++◌, Option, Some, None, is_some, get_or, drop, length, map, filter, slice_get, refl, sym, ap, ◌∙◌, subst, arith, append_assoc, length-append, add-one, drop-cons, mul-le-mul_right}
use Rattle.std.specs.Prelude.{if◌then◌else◌, unwrap_or}
use Rattle.std.specs.List.{All, cons_option, flat_map, list_any, filter_map, position, range_with_len}
use Rattle.std.proofs.lemmas.Bool.{eq-eqb, eqb-true}
use Rattle.std.proofs.lemmas.Option.{slice_get-get_or}
use Rattle.std.proofs.lemmas.List.{append-nil, drop_all, length-map, get_or_append_left, get_or-append_right, length_push}
use Rattle.std.proofs.lemmas.List.Quantifiers.{position-Some}
use Rattle.std.proofs.lemmas.List.Elements.{filter-append, All-filter, All-append}
use Rattle.std.proofs.lemmas.Grind.{flat_map-append}
use Rattle.std.proofs.lemmas.List.FromFn.{map-range_with_len_more}
use Rattle.word_graph.specs.declared.entry.Entry.{Entry}
use Rattle.word_graph.specs.Shape.{constant_entry, constant_word, node_limit}
use Rattle.word_graph.specs.declared.entry.Node.{Node}
use Rattle.module_split.specs.declared.homes.Group.{Group}
use Rattle.module_split.specs.declared.homes.Home.{Home}
use Rattle.module_split.specs.declared.module.EdgeWords.{EdgeWords}
use Rattle.module_split.specs.declared.cutting.Belonging.{Belonging}
use Rattle.module_split.specs.Homes.{group_of, groups_of, homes_of}
use Rattle.module_split.specs.Parts.{IsBelonging}
use Rattle.module_split.proofs.HomeLaws.{length-homes_after}
use Rattle.module_split.specs.Lists.{at}
use Rattle.module_split.specs.Cut.{below, crosses_into, different_after, edge_with, edges_to, group_in, ins_of, is_just, is_of, is_result, is_variable, layer_in, module_of, nodes_of, number_in, numbers_of, order_of, same_group, users_of, words_between}
use Rattle.module_split.specs.Steps.{AreUsers, IsBelow, IsDistinct, and_then, crosses_by, crosses_in, groups_words, is_out, module_number, module_with, places_of_modules}
use Rattle.module_split.proofs.ListLaws.{below-more}
use Rattle.module_split.proofs.UseLaws.{filter_below-low, filter_below-more}

-- ---- variables

-- whether the node at a place is no constant
is_variable-at : (es : List Entry) (i : ℕ) (d : Entry) → i < length es → not (is_some (constant_word (get_or es i d).op (get_or es i d).number)) ≡ is_variable es i
is_variable-at es i d within = ap (λ (o : Option ℕ). not (is_some o)) (sym (ap constant_entry (slice_get-get_or es i d within)))

pub variables-more : (es : List Entry) (i : ℕ) (d : Entry) → i < length es → (places : List ℕ) (b : Bool) → b ≡ not (is_some (constant_word (get_or es i d).op (get_or es i d).number)) → places ≡ filter (is_variable es) (below i) →
    and_then places b i ≡ filter (is_variable es) (below (i + 1))
variables-more es i d within places b is inv =
    ap (λ (ks : List ℕ). and_then ks b i) inv ∙ ap (λ (c : Bool). and_then (filter (is_variable es) (below i)) c i) (is ∙ is_variable-at es i d within) ∙ sym (filter_below-more (is_variable es) i)

-- ---- lists joined

pub flat_map_below-more : {A : Type 0} (f : ℕ → List A) (n : ℕ) → flat_map f (below (n + 1)) ≡ flat_map f (below n) ++ f n
flat_map_below-more {A = A} f n = ap (flat_map f) (below-more n) ∙ flat_map-append f (below n) (n ∷ []) ∙ ap (λ (ys : List A). flat_map f (below n) ++ ys) (append-nil (f n))

pub flat_map_below-suc : {A : Type 0} (f : ℕ → List A) (n : ℕ) → flat_map f (below (suc n)) ≡ flat_map f (below n) ++ f n
flat_map_below-suc f n = ap (λ (k : ℕ). flat_map f (below k)) (sym (add-one n)) ∙ flat_map_below-more f n

filter_below-suc : (p : ℕ → Bool) (n : ℕ) → filter p (below (suc n)) ≡ and_then (filter p (below n)) (p n) n
filter_below-suc p n = ap (λ (k : ℕ). filter p (below k)) (sym (add-one n)) ∙ filter_below-more p n

-- ---- runs of one module

module _ (numbers : List (Option ℕ)) (to : ℕ) where
  pub groups_words-same : (from k : ℕ) (words ks : List ℕ) → module_number numbers k ≡ from → groups_words numbers to from words (k ∷ ks) ≡ groups_words numbers to from (words ++ k ∷ []) ks
  unfolding groups_words
  groups_words-same from k words ks e = rw (eq-eqb (module_number numbers k) from e) refl

  pub groups_words-other : (from k : ℕ) (words ks : List ℕ) → (module_number numbers k ≡ from → ⊥) →
      groups_words numbers to from words (k ∷ ks) ≡ edge_with to from words ++ groups_words numbers to (module_number numbers k) (k ∷ []) ks
  unfolding groups_words
  groups_words-other from k words ks e = by (eqb (module_number numbers k) from) refl
    where
      by : (b : Bool) → eqb (module_number numbers k) from ≡ b →
          (if b then groups_words numbers to from (words ++ k ∷ []) ks else edge_with to from words ++ groups_words numbers to (module_number numbers k) (k ∷ []) ks)
          ≡ edge_with to from words ++ groups_words numbers to (module_number numbers k) (k ∷ []) ks
      by true t = absurd (e (eqb-true (module_number numbers k) from t))
      by false t = refl

  pub groups_words-end : (from : ℕ) (words : List ℕ) → groups_words numbers to from words [] ≡ edge_with to from words
  unfolding groups_words
  groups_words-end from words = refl

  -- nodes of the module of these words join them
  groups_words-run : (from : ℕ) (words ks rest : List ℕ) → All (λ k. module_number numbers k ≡ from) ks → groups_words numbers to from words (ks ++ rest) ≡ groups_words numbers to from (words ++ ks) rest
  groups_words-run from words [] rest same = ap (λ (ws : List ℕ). groups_words numbers to from ws rest) (sym (append-nil words))
  groups_words-run from words (k ∷ ks) rest same =
      groups_words-same from k words (ks ++ rest) (same 0 k (omega arith))
      ∙ groups_words-run from (words ++ k ∷ []) ks rest (λ i d h. same (suc i) d (omega arith))
      ∙ ap (λ (ws : List ℕ). groups_words numbers to from ws rest) (append_assoc words (k ∷ []) ks)

  module _ (words_of : ℕ → List ℕ) (same : (m : ℕ) → All (λ k. module_number numbers k ≡ m) (words_of m)) where
    -- the words of later modules make one edge each
    groups_words-later : (a n from : ℕ) (words : List ℕ) → from < a →
        groups_words numbers to from words (flat_map words_of (range_with_len a n)) ≡ edge_with to from words ++ flat_map (λ m. edge_with to m (words_of m)) (range_with_len a n)
    groups_words-later a zero from words less = groups_words-end from words ∙ sym (append-nil (edge_with to from words))
    groups_words-later a (suc n) from words less = by (words_of a) (same a) (λ f ws h. groups_words-later (a + 1) n f ws h)
      where
        by : (ks : List ℕ) → All (λ k. module_number numbers k ≡ a) ks →
            ((f : ℕ) (ws : List ℕ) → f < a + 1 → groups_words numbers to f ws (flat_map words_of (range_with_len (a + 1) n)) ≡ edge_with to f ws ++ flat_map (λ m. edge_with to m (words_of m)) (range_with_len (a + 1) n)) →
            groups_words numbers to from words (ks ++ flat_map words_of (range_with_len (a + 1) n))
            ≡ edge_with to from words ++ (edge_with to a ks ++ flat_map (λ m. edge_with to m (words_of m)) (range_with_len (a + 1) n))
        by [] every later = later from words (omega arith)
        by (k ∷ ks) every later =
            let here : module_number numbers k ≡ a = every 0 k (omega arith) in
            let rest : List ℕ = flat_map words_of (range_with_len (a + 1) n) in
            groups_words-other from k words (ks ++ rest) (λ e. absurd (omega (arith, here, e)))
            ∙ ap (λ (es : List EdgeWords). edge_with to from words ++ es)
            (ap (λ (m : ℕ). groups_words numbers to m (k ∷ []) (ks ++ rest)) here
            ∙ groups_words-run a (k ∷ []) ks rest (λ i d h. every (suc i) d (omega arith))
            ∙ later a (k ∷ ks) (omega arith))

    pub groups_words-all : (count : ℕ) → groups_words numbers to 0 [] (flat_map words_of (below count)) ≡ flat_map (λ m. edge_with to m (words_of m)) (below count)
    groups_words-all zero = groups_words-end 0 []
    groups_words-all (suc n) = groups_words-run 0 [] (words_of 0) (flat_map words_of (range_with_len (0 + 1) n)) (same 0) ∙ groups_words-later (0 + 1) n 0 (words_of 0) (omega arith)

  module _ (crossing : List ℕ) (i d : ℕ) (within : i < length crossing) (edges rhs : List EdgeWords) (from : ℕ) (words : List ℕ)
      (inv : edges ++ groups_words numbers to from words (drop i crossing) ≡ rhs) where
    next : drop i crossing ≡ get_or crossing i d ∷ drop (i + 1) crossing
    next = rw add-one (drop-cons crossing i d within)

    pub add_edges-same : module_number numbers (get_or crossing i d) ≡ from → edges ++ groups_words numbers to from (words ++ get_or crossing i d ∷ []) (drop (i + 1) crossing) ≡ rhs
    add_edges-same e =
        ap (λ (es : List EdgeWords). edges ++ es) (sym (groups_words-same from (get_or crossing i d) words (drop (i + 1) crossing) e) ∙ ap (groups_words numbers to from words) (sym next)) ∙ inv

    pub add_edges-other : (module_number numbers (get_or crossing i d) ≡ from → ⊥) →
        (edges ++ edge_with to from words) ++ groups_words numbers to (module_number numbers (get_or crossing i d)) ([] ++ get_or crossing i d ∷ []) (drop (i + 1) crossing) ≡ rhs
    add_edges-other e =
        append_assoc edges (edge_with to from words) (groups_words numbers to (module_number numbers (get_or crossing i d)) (get_or crossing i d ∷ []) (drop (i + 1) crossing))
        ∙ ap (λ (es : List EdgeWords). edges ++ es) (sym (groups_words-other from (get_or crossing i d) words (drop (i + 1) crossing) e) ∙ ap (groups_words numbers to from words) (sym next)) ∙ inv

  pub add_edges-end : (crossing : List ℕ) (i : ℕ) → length crossing ≤ i → (edges rhs : List EdgeWords) (from : ℕ) (words : List ℕ) →
      edges ++ groups_words numbers to from words (drop i crossing) ≡ rhs → edges ++ edge_with to from words ≡ rhs
  add_edges-end crossing i past edges rhs from words inv =
      ap (λ (es : List EdgeWords). edges ++ es) (sym (groups_words-end from words) ∙ ap (groups_words numbers to from words) (sym (drop_all i crossing past))) ∙ inv

-- ---- what modules use, module by module

filter-flat_map : {A : Type 0} (p : ℕ → Bool) (f : A → List ℕ) (xs : List A) → filter p (flat_map f xs) ≡ flat_map (λ x. filter p (f x)) xs
filter-flat_map p f [] = refl
filter-flat_map p f (x ∷ xs) = filter-append p (f x) (flat_map f xs) ∙ ap (λ (ys : List ℕ). filter p (f x) ++ ys) (filter-flat_map p f xs)

filter-passes : (p : ℕ → Bool) (xs : List ℕ) → All (λ x. p x ≡ true) (filter p xs)
filter-passes p [] = λ k d h. absurd (omega arith)
filter-passes p (x ∷ xs) = by (p x) refl (filter-passes p xs)
  where
    by : (b : Bool) → p x ≡ b → All (λ y. p y ≡ true) (filter p xs) → All (λ y. p y ≡ true) (cond b (x ∷ filter p xs) (filter p xs))
    by true e rest zero d h = e
    by true e rest (suc k) d h = rest k d (omega arith)
    by false e rest k d h = rest k d h

module_number-of : (numbers : List (Option ℕ)) (m k : ℕ) → is_of numbers m k ≡ true → module_number numbers k ≡ m
module_number-of numbers m k e = by (get_or numbers k None) e
  where
    by : (o : Option ℕ) → is_just o m ≡ true → unwrap_or o 0 ≡ m
    by None h = absurd (cc)
    by (Some j) h = eqb-true j m h

nodes-numbered : (numbers : List (Option ℕ)) (m : ℕ) → All (λ k. module_number numbers k ≡ m) (nodes_of numbers m)
nodes-numbered numbers m i d h = module_number-of numbers m (get_or (nodes_of numbers m) i d) (filter-passes (is_of numbers m) (below (length numbers)) i d h)

-- the edges to a module are the runs of what it uses, module by module
pub edges_to-runs : (es : List Entry) (numbers : List (Option ℕ)) (count to : ℕ) →
    groups_words numbers to 0 [] (filter (crosses_into es numbers to) (places_of_modules numbers count)) ≡ edges_to es numbers count to
edges_to-runs es numbers count to =
    ap (groups_words numbers to 0 []) (filter-flat_map (crosses_into es numbers to) (nodes_of numbers) (below count))
    ∙ groups_words-all numbers to (words_between es numbers to) (λ m. All-filter (crosses_into es numbers to) (λ (k : ℕ). module_number numbers k ≡ m) (nodes_of numbers m) (nodes-numbered numbers m)) count

-- ---- distinct places

distinct-nil : IsDistinct []
distinct-nil i j less within = absurd (omega arith)

pub distinct-append : (xs ys : List ℕ) → IsDistinct xs → IsDistinct ys → ((i j : ℕ) → i < length xs → j < length ys → get_or xs i 0 ≢ get_or ys j 0) → IsDistinct (xs ++ ys)
distinct-append xs ys dx dy apart_ i j less within same =
    let long : length (xs ++ ys) ≡ length xs + length ys = length-append xs ys in
    elim (split_at j (length xs)) [
      | inl left ↦ dx i j less left (sym (get_or_append_left xs ys 0 i (omega arith)) ∙ same ∙ get_or_append_left xs ys 0 j left)
      | inr right ↦
          let at_j : get_or (xs ++ ys) j 0 ≡ get_or ys (j - length xs) 0 = get_or-append_right xs ys (length xs) j 0 refl right in
          elim (split_at i (length xs)) [
            | inl left_i ↦ apart_ i (j - length xs) left_i (omega arith) (sym (get_or_append_left xs ys 0 i left_i) ∙ same ∙ at_j)
            | inr right_i ↦ dy (i - length xs) (j - length xs) (omega arith) (omega arith) (sym (get_or-append_right xs ys (length xs) i 0 refl right_i) ∙ same ∙ at_j)
          ]
    ]
  where
    split_at : (a b : ℕ) → (a < b) ⊎ (b ≤ a)
    split_at a b = grind arith

distinct-one : (k : ℕ) → IsDistinct (k ∷ [])
distinct-one k i j less within = absurd (omega arith)

only : (m j : ℕ) → j < length (m ∷ []) → get_or (m ∷ []) j 0 ≡ m
only m zero h = refl
only m (suc j) h = absurd (omega arith)

-- ascending places are distinct
pub distinct-filter_below : (p : ℕ → Bool) (n : ℕ) → IsDistinct (filter p (below n))
distinct-filter_below p zero = distinct-nil
distinct-filter_below p (suc n) = subst IsDistinct (sym (filter_below-suc p n)) (by (p n) (distinct-filter_below p n))
  where
    by : (b : Bool) → IsDistinct (filter p (below n)) → IsDistinct (and_then (filter p (below n)) b n)
    by true d = distinct-append (filter p (below n)) (n ∷ []) d (distinct-one n) (λ i j hi hj same.
        let low : get_or (filter p (below n)) i 0 < n = filter_below-low p n i 0 hi in
        let last : get_or (n ∷ []) j 0 ≡ n = only n j hj in
        absurd (omega (arith, same, low, last)))
    by false d = rw append-nil d

module _ (numbers : List (Option ℕ)) where
  places-numbered : (count : ℕ) → All (λ k. module_number numbers k < count) (places_of_modules numbers count)
  places-numbered zero = λ k d h. absurd (omega arith)
  places-numbered (suc n) =
      subst (All (λ k. module_number numbers k < suc n)) (sym (flat_map_below-suc (nodes_of numbers) n))
      (All-append (λ (k : ℕ). module_number numbers k < suc n) (places_of_modules numbers n) (nodes_of numbers n)
      (λ k d h. omega (arith, places-numbered n k d h))
      (λ k d h. omega (arith, nodes-numbered numbers n k d h)))

  pub distinct-places : (count : ℕ) → IsDistinct (places_of_modules numbers count)
  distinct-places zero = distinct-nil
  distinct-places (suc n) =
      subst IsDistinct (sym (flat_map_below-suc (nodes_of numbers) n))
      (distinct-append (places_of_modules numbers n) (nodes_of numbers n) (distinct-places n) (distinct-filter_below (is_of numbers n) (length numbers))
      (λ i j hi hj same.
      let low : module_number numbers (get_or (places_of_modules numbers n) i 0) < n = places-numbered n i 0 hi in
      let here : module_number numbers (get_or (nodes_of numbers n) j 0) ≡ n = nodes-numbered numbers n j 0 hj in
      absurd (omega (arith, low, here, ap (module_number numbers) same))))

  pub places-low : (count : ℕ) → All (λ k. k < length numbers) (places_of_modules numbers count)
  places-low zero = λ k d h. absurd (omega arith)
  places-low (suc n) =
      subst (All (λ k. k < length numbers)) (sym (flat_map_below-suc (nodes_of numbers) n))
      (All-append (λ (k : ℕ). k < length numbers) (places_of_modules numbers n) (nodes_of numbers n) (places-low n) (filter_below-low (is_of numbers n) (length numbers)))

-- ---- lists given elsewhere

filter-same : (p q : ℕ → Bool) (xs : List ℕ) → All (λ x. p x ≡ q x) xs → filter p xs ≡ filter q xs
filter-same p q [] same = refl
filter-same p q (x ∷ xs) same = rw (same 0 x (omega arith)) (ap (λ (ys : List ℕ). cond (q x) (x ∷ ys) ys) (filter-same p q xs (λ k d h. same (suc k) d (omega arith))))

pub crosses-same : (es : List Entry) (users : List (List ℕ)) (numbers : List (Option ℕ)) (places : List ℕ) (m : ℕ) → AreUsers es users → All (λ k. k < length es) places →
    filter (crosses_in users numbers m) places ≡ filter (crosses_into es numbers m) places
crosses-same es users numbers places m u low = filter-same (crosses_in users numbers m) (crosses_into es numbers m) places
    (λ i d h. ap (λ (us : List ℕ). crosses_by numbers us (get_or places i d) m) (u.each (get_or places i d) (low i d h)))

pub joined-same : (nodes : List (List ℕ)) (numbers : List (Option ℕ)) (count : ℕ) → ((m : ℕ) → m < count → at nodes m ≡ nodes_of numbers m) → flat_map (at nodes) (below count) ≡ places_of_modules numbers count
joined-same nodes numbers zero same = refl
joined-same nodes numbers (suc n) same =
    flat_map_below-suc (at nodes) n ∙ ap (λ (ys : List ℕ). ys ++ at nodes n) (joined-same nodes numbers n (λ m h. same m (omega arith))) ∙ ap (λ (ys : List ℕ). places_of_modules numbers n ++ ys) (same n (omega arith)) ∙ sym (flat_map_below-suc (nodes_of numbers) n)

-- ---- modules

pub module-same : (es : List Entry) (homes : List Home) (order : List Group) (numbers : List (Option ℕ)) (results : List Node) (users : List (List ℕ)) (wanted : List Bool) (m : ℕ) →
    length numbers ≡ length es → AreUsers es users → ((k : ℕ) → k < length es → get_or wanted k false ≡ is_result results k) →
    module_with homes (layer_in (slice_get order m)) (nodes_of numbers m) (ins_of es numbers m) (filter (is_out wanted users numbers m) (nodes_of numbers m)) ≡ module_of es homes order numbers results m
module-same es homes order numbers results users wanted m count u w =
    ap (module_with homes (layer_in (slice_get order m)) (nodes_of numbers m) (ins_of es numbers m))
    (filter-same (is_out wanted users numbers m) (λ k. is_result results k || list_any (λ user. not (is_of numbers m user)) (users_of es k)) (nodes_of numbers m)
    (λ i d h.
    let low : get_or (nodes_of numbers m) i d < length numbers = filter_below-low (is_of numbers m) (length numbers) i d h in
    let k : ℕ = get_or (nodes_of numbers m) i d in
    ap (λ (b : Bool). b || list_any (λ user. not (is_of numbers m user)) (at users k)) (w k (omega arith))
    ∙ ap (λ (us : List ℕ). is_result results k || list_any (λ user. not (is_of numbers m user)) us) (u.each k (omega arith))))

-- ---- numbers of modules

pub numbers-low : (order : List Group) (groups : List (Option Group)) → All (IsBelow (length order)) (numbers_of order groups)
numbers-low order [] k d h = absurd (omega arith)
numbers-low order (o ∷ groups) zero d h = by o
  where
    by : (p : Option Group) → IsBelow (length order) (number_in order p)
    by None = tt
    by (Some g) = at_some (number_in order (Some g)) refl
      where
        at_some : (n : Option ℕ) → position (same_group g) order ≡ n → IsBelow (length order) n
        at_some None e = tt
        at_some (Some j) e = (position-Some (same_group g) order j g e).0
numbers-low order (o ∷ groups) (suc k) d h = numbers-low order groups k d (omega arith)

length-different : (before gs : List Group) → length (different_after before gs) ≤ length before + length gs
unfolding different_after
length-different before [] = omega arith
length-different before (g ∷ gs) = by (list_any (same_group g) before) (λ seen. length-different seen gs)
  where
    by : (b : Bool) → ((seen : List Group) → length (different_after seen gs) ≤ length seen + length gs) → length (different_after (if b then before else before ++ g ∷ []) gs) ≤ length before + length (g ∷ gs)
    by true rest = omega (arith, rest before)
    by false rest = omega (arith, rest (before ++ g ∷ []), length_push before g)

length-layer : (layer : ℕ) (groups : List (Option Group)) → length (filter_map (group_in layer) groups) ≤ length groups
length-layer layer [] = omega arith
length-layer layer (o ∷ groups) = by (group_in layer o) (length-layer layer groups)
  where
    by : (p : Option Group) → length (filter_map (group_in layer) groups) ≤ length groups → length (cons_option p (filter_map (group_in layer) groups)) ≤ length (o ∷ groups)
    by None h = omega arith
    by (Some g) h = omega arith

length-layers : (groups : List (Option Group)) (n : ℕ) → length (flat_map (λ layer. filter_map (group_in layer) groups) (below n)) ≤ n * length groups
length-layers groups zero = omega arith
length-layers groups (suc n) =
    let more : length (flat_map (λ layer. filter_map (group_in layer) groups) (below n) ++ filter_map (group_in n) groups) ≤ n * length groups + length groups =
    omega (arith, length-append (flat_map (λ layer. filter_map (group_in layer) groups) (below n)) (filter_map (group_in n) groups), length-layers groups n, length-layer n groups) in
    omega (arith, ap length (flat_map_below-suc (λ layer. filter_map (group_in layer) groups) n), more)

pub length-order : (layers : ℕ) (groups : List (Option Group)) → length (order_of layers groups) ≤ layers * length groups
length-order layers groups = omega (arith, length-different [] (flat_map (λ layer. filter_map (group_in layer) groups) (below layers)), length-layers groups layers)

pub map_below-more : {A : Type 0} (f : ℕ → A) (n : ℕ) → map f (below (n + 1)) ≡ map f (below n) ++ f n ∷ []
map_below-more f n = map-range_with_len_more f 0 n n (omega arith)

-- ---- where nodes belong

pub length-homes : (layers : ℕ) (es : List Entry) → length (homes_of layers es) ≡ length es
length-homes layers es = omega (arith, length-homes_after layers [] es)

pub length-groups : (es : List Entry) (layers : ℕ) (homes : List Home) (groups : List (Option Group)) → homes ≡ homes_of layers es → groups ≡ map (group_of layers) homes → length groups ≡ length es
length-groups es layers homes groups are made = ap length made ∙ length-map homes (group_of layers) ∙ ap length are ∙ length-homes layers es

pub IsBelonging-made : (es : List Entry) (layers : ℕ) (groups : List (Option Group)) (b : Belonging) → length es ≤ node_limit → layers ≤ 64 → b.homes.items ≡ homes_of layers es →
    groups ≡ map (group_of layers) b.homes.items → b.order.keys ≡ order_of layers groups → b.numbers.items ≡ numbers_of b.order.keys groups → IsBelonging es layers b
IsBelonging-made es layers groups b limit few homes made order numbers =
    let groups_are : groups ≡ groups_of layers es = made ∙ ap (map (group_of layers)) homes in
    let long : length groups ≡ length es = length-groups es layers b.homes.items groups homes made in
    let product : layers * length groups ≤ 64 * length groups = mul-le-mul_right (length groups) few in
    record {
      homes = homes;
      order = order ∙ ap (order_of layers) groups_are;
      numbers = numbers ∙ rw (order, groups_are) refl;
      count = ap length numbers ∙ length-map groups (number_in b.order.keys) ∙ long;
      low = rw numbers (numbers-low b.order.keys groups);
      few = omega (arith, ap length order, length-order layers groups, product, long);
    }
