-- The problem of a draft is one: each module has a choice, each fan lies between its producer and later modules, and all costs together
-- are below 2^63.
use Rattle.std.proofs.Common.{◌≡◌, inl, inr, ℕ, zero, suc, ◌+◌, ◌*◌, ◌^◌, ◌<◌, ◌≤◌, max, Bool, true, false, cond, List, [], ◌∷◌, ◌++◌, Option, Some, None, filter, get_or, length, map, option_map, slice_get, unwrap_or, refl, sym, ap, ◌∙◌, subst, arith, length-append}
use Rattle.std.specs.List.{All, Contains, count_by, enumerate_from, flat_map, fold, sum_by}
use Rattle.std.specs.Str.{bytes_eq}
use Rattle.std.specs.Cmp.Lexicographic.{bytes_decides}
use Rattle.std.specs.declared.cmp.Ordering.{Ordering}
use Rattle.std.specs.declared.cmp.Ordering.TheVariants.{Less, Equal, Greater}
use Rattle.std.proofs.lemmas.Nat.{mul-le}
use Rattle.std.proofs.lemmas.List.{length-map}
use Rattle.std.proofs.lemmas.List.FromFn.{get_or-enumerate_from, length-enumerate_from}
use Rattle.std.proofs.lemmas.List.Sums.{count_by-le-length, sum_by-append, sum_by-cons}
use Rattle.std.proofs.lemmas.Option.{slice_get-get_or}
use Rattle.hy_bits.specs.declared.width.Width.{Width}
use Rattle.hy_bits.specs.declared.width.Width.TheVariants.{W8, W16, W32, W64}
use Rattle.word_graph.specs.declared.entry.Entry.{Entry}
use Rattle.word_graph.specs.Shape.{IsGraph}
use Rattle.word_graph.specs.Term.{width_at}
use Rattle.module_split.specs.declared.module.Module.{Module}
use Rattle.ring_net.specs.Ring.{Ring, product_count}
use Rattle.gate_net.specs.Circuit.{Circuit}
use Rattle.gate_net.specs.Meaning.{and_count, depth_of}
use Rattle.choice_core.specs.declared.problems.Fan.{Fan}
use Rattle.choice_core.specs.declared.problems.Table.{Table}
use Rattle.choice_core.specs.declared.sharings.Choice.TheVariants.{Y}
use Rattle.choice_core.specs.declared.sharings.Sharing.{Sharing}
use Rattle.choice_core.specs.declared.sharings.Sharing.TheVariants.{Arithmetic, Boolean, Yao}
use Rattle.choice_core.specs.Problems.{Ascends, HasChoice, IsFan, IsProblem, greatest_own, greatest_price, price_of}
use Rattle.bundle_core.specs.declared.parts.Parts.{Parts}
use Rattle.bundle_core.specs.declared.parts.Variant.{Variant}
use Rattle.bundle_core.specs.Parts.{IsDraft, ring_size}
use Rattle.bundle_core.specs.Costs.{IsSmall, boolean_cost, consumers, fan_to, fans_from, fans_of, lists_of, own_costs, problem_of, ring_cost, width_place, with_consumers, with_list, with_list_by, word_price, words_price, words_to, yao_cost}
use Rattle.bundle_core.proofs.ListOrder.{In, Rising, below-all, compared, folded-in, folded-rising, not_below}
use Rattle.bundle_core.proofs.MeaningLaws.{AreVariants-length}
use Rattle.bundle_core.proofs.OwnLaws.{depth-few}
use Rattle.bundle_core.proofs.ProblemLaws.{consumers-ascend, outs-total}

-- ---- each of a list

abbrev Each : {X : Type 0} → (X → Type 0) → List X → Type 0
Each P [] = Unit {0}
Each P (x ∷ xs) = P x × Each P xs

each-all : {X : Type 0} (P : X → Type 0) (xs : List X) → Each P xs → All P xs
each-all P [] each i d h = absurd (omega arith)
each-all P (x ∷ xs) each zero d h = each.0
each-all P (x ∷ xs) each (suc i) d h = each-all P xs each.1 i d (omega arith)

each-append : {X : Type 0} (P : X → Type 0) (xs ys : List X) → Each P xs → Each P ys → Each P (xs ++ ys)
each-append P [] ys a b = b
each-append P (x ∷ xs) ys a b = (a.0, each-append P xs ys a.1 b)

each-flat : {X Z : Type 0} (P : Z → Type 0) (f : X → List Z) (xs : List X) → ((x : X) → Contains xs x → Each P (f x)) → Each P (flat_map f xs)
each-flat P f [] each = tt
each-flat P f (x ∷ xs) each = each-append P (f x) (flat_map f xs) (each x (0, omega arith, refl)) (each-flat P f xs (λ y c. each y (suc c.0, omega (arith, c.1), c.2)))

each-map : (P : Fan → Type 0) (f : List ℕ → Fan) (ls : List (List ℕ)) → ((l : List ℕ) → In l ls → P (f l)) → Each P (map f ls)
each-map P f [] each = tt
each-map P f (l ∷ ls) each = (each l (inl refl), each-map P f ls (λ m i. each m (inr i)))

-- a module with its number
numbered : (list : List Module) (p : ℕ × Module) → Contains (enumerate_from 0 list) p → slice_get list p.0 ≡ Some p.1
numbered list p (i, h, e) =
    let within : i < length list = omega (arith, h, length-enumerate_from 0 list) in
    let is : (0 + i, get_or list i p.1) ≡ p = sym (get_or-enumerate_from 0 list i p within) ∙ e in
    let number : i ≡ p.0 = omega (arith, ap (λ (q : ℕ × Module). q.0) is) in
    let part : get_or list i p.1 ≡ p.1 = ap (λ (q : ℕ × Module). q.1) is in
    ap (slice_get list) (sym number) ∙ slice_get-get_or list i p.1 within ∙ ap (λ (m : Module). Some m) part

-- ---- lists of consumers

in-map : (key : ℕ → List ℕ) (ks : List ℕ) (m : List ℕ) → In m (map key ks) → (k : ℕ) × Contains ks k × (key k ≡ m)
in-map key [] m i = absurd i
in-map key (k ∷ ks) m i = elim i [
  | inl e ↦ (k, (0, omega arith, refl), sym e)
  | inr j ↦ let found = in-map key ks m j in (found.0, (suc found.1.0, omega (arith, found.1.1), found.1.2), found.2)
]

list-of : (list : List Module) (outs to : List ℕ) → In to (lists_of list outs) → (k : ℕ) × Contains outs k × (consumers list k ≡ to) × (0 < length to)
list-of list outs to i = elim (folded-in [] (map (consumers list) outs) to i) [
  | inl j ↦ absurd j
  | inr p ↦ let found = in-map (consumers list) outs to p.0 in (found.0, found.1, found.2, p.1)
]

-- ---- each fan is one

nothing-paid : (es : List Entry) (ks : List ℕ) → sum_by (λ k. get_or [] (width_place (width_at es k)) 0) ks ≡ 0
nothing-paid es [] = refl
nothing-paid es (k ∷ ks) = omega (arith, sum_by-cons (λ j. get_or [] (width_place (width_at es j)) 0) k ks, nothing-paid es ks)

free-of : (t : Table) (es : List Entry) (ks : List ℕ) (s : Sharing) → words_price t es ks s s ≡ 0
free-of t es ks Arithmetic = nothing-paid es ks
free-of t es ks Boolean = nothing-paid es ks
free-of t es ks Yao = nothing-paid es ks

fan-free : (t : Table) (es : List Entry) (list : List Module) (from : ℕ) (outs to : List ℕ) (s : Sharing) → price_of (fan_to t es list from outs to) s s ≡ 0
fan-free t es list from outs to Arithmetic = free-of t es (words_to list outs to) Arithmetic
fan-free t es list from outs to Boolean = free-of t es (words_to list outs to) Boolean
fan-free t es list from outs to Yao = free-of t es (words_to list outs to) Yao

pub fans-are : (b : Parts) → IsDraft b → IsGraph b.graph → All (IsFan (length b.modules.list)) (fans_of b.table b.graph b.modules.list)
fans-are b draft graph =
    let list = b.modules.list in
    each-all (IsFan (length list)) (fans_of b.table b.graph list)
    (each-flat (IsFan (length list)) (fans_from b.table b.graph list) (enumerate_from 0 list)
    (λ p c. each-map (IsFan (length list)) (fan_to b.table b.graph list p.0 p.1.outs) (lists_of list p.1.outs)
    (λ to i.
    let found = list-of list p.1.outs to i in
    record {
      some = found.3;
      ascends = subst (λ (l : List ℕ). Ascends p.0 l (length list)) found.2 (consumers-ascend b draft graph p.0 found.0 p.1 (numbered list p c) found.1);
      free = fan-free b.table b.graph list p.0 p.1.outs to;
    })))

-- ---- how many fans there are

with_list-long : (l : List ℕ) (ls : List (List ℕ)) → length (with_list l ls) ≤ 1 + length ls
with_list-long l [] = omega arith
with_list-long l (m ∷ ls) = by (compared l m) (with_list-long l ls)
  where
    by : (o : Ordering) → length (with_list l ls) ≤ 1 + length ls → length (with_list_by o l m ls (with_list l ls)) ≤ 1 + suc (length ls)
    by Less h = omega arith
    by Equal h = omega arith
    by Greater h = omega (arith, h)

with_consumers-long : (acc : List (List ℕ)) (l : List ℕ) → length (with_consumers acc l) ≤ 1 + length acc
with_consumers-long acc [] = omega arith
with_consumers-long acc (x ∷ xs) = with_list-long (x ∷ xs) acc

folded-long : (acc ls : List (List ℕ)) → length (fold with_consumers acc ls) ≤ length acc + length ls
folded-long acc [] = omega arith
folded-long acc (l ∷ ls) = omega (arith, folded-long (with_consumers acc l) ls, with_consumers-long acc l)

lists-long : (list : List Module) (outs : List ℕ) → length (lists_of list outs) ≤ length outs
lists-long list outs = omega (arith, folded-long [] (map (consumers list) outs), length-map outs (consumers list))

flat-long : (t : Table) (es : List Entry) (list : List Module) (ps : List (ℕ × Module)) → length (flat_map (fans_from t es list) ps) ≤ sum_by (λ (p : ℕ × Module). length p.1.outs) ps
flat-long t es list [] = omega arith
flat-long t es list (p ∷ ps) =
    omega (arith, length-append (fans_from t es list p) (flat_map (fans_from t es list) ps), length-map (lists_of list p.1.outs) (fan_to t es list p.0 p.1.outs), lists-long list p.1.outs, flat-long t es list ps, sum_by-cons (λ (q : ℕ × Module). length q.1.outs) p ps)

sum-enumerated : (f : Module → ℕ) (n : ℕ) (list : List Module) → sum_by (λ (p : ℕ × Module). f p.1) (enumerate_from n list) ≡ sum_by f list
sum-enumerated f n [] = refl
sum-enumerated f n (part ∷ list) = omega (arith, sum_by-cons (λ (p : ℕ × Module). f p.1) (n, part) (enumerate_from (n + 1) list), sum_by-cons f part list, sum-enumerated f (n + 1) list)

pub fans-few : (b : Parts) → IsDraft b → IsGraph b.graph → length (fans_of b.table b.graph b.modules.list) < 2 ^ 32
fans-few b draft graph =
    omega (arith, flat-long b.table b.graph b.modules.list (enumerate_from 0 b.modules.list), sum-enumerated (λ (part : Module). length part.outs) 0 b.modules.list, outs-total b draft graph, graph.limit)

-- ---- own costs are not too large

at-small : (row : List ℕ) (i : ℕ) → All (λ n. n < 2 ^ 32) row → get_or row i 0 < 2 ^ 32
at-small [] i all = omega arith
at-small (n ∷ row) zero all = all 0 0 (omega arith)
at-small (n ∷ row) (suc i) all = at-small row i (λ j d h. all (suc j) d (omega (arith, h)))

count-few : {X : Type 0} (p : X → Bool) (xs : List X) → count_by p xs ≤ length xs
count-few p xs = count_by-le-length p xs

pub ring-low : (t : Table) → IsSmall t → (r : Ring) → ring_cost t r ≤ 2 ^ 34 * length r.gates
ring-low t small r =
    let a : product_count W8 r.gates * get_or t.a_mul 0 0 ≤ length r.gates * 2 ^ 32 = mul-le (product_count W8 r.gates) (get_or t.a_mul 0 0) (length r.gates) (2 ^ 32) (count-few _ r.gates) (omega (arith, at-small t.a_mul 0 small.products)) in
    let b : product_count W16 r.gates * get_or t.a_mul 1 0 ≤ length r.gates * 2 ^ 32 = mul-le (product_count W16 r.gates) (get_or t.a_mul 1 0) (length r.gates) (2 ^ 32) (count-few _ r.gates) (omega (arith, at-small t.a_mul 1 small.products)) in
    let c : product_count W32 r.gates * get_or t.a_mul 2 0 ≤ length r.gates * 2 ^ 32 = mul-le (product_count W32 r.gates) (get_or t.a_mul 2 0) (length r.gates) (2 ^ 32) (count-few _ r.gates) (omega (arith, at-small t.a_mul 2 small.products)) in
    let d : product_count W64 r.gates * get_or t.a_mul 3 0 ≤ length r.gates * 2 ^ 32 = mul-le (product_count W64 r.gates) (get_or t.a_mul 3 0) (length r.gates) (2 ^ 32) (count-few _ r.gates) (omega (arith, at-small t.a_mul 3 small.products)) in
    omega (arith, a, b, c, d)

yao-low : (t : Table) → IsSmall t → (n : Circuit) → yao_cost t n ≤ 2 ^ 34 * length n.gates
yao-low t small n =
    let a : and_count n.gates * t.y_and ≤ length n.gates * 2 ^ 32 = mul-le (and_count n.gates) t.y_and (length n.gates) (2 ^ 32) (count-few _ n.gates) (omega (arith, small.y_and)) in
    omega (arith, a)

boolean-low : (t : Table) → IsSmall t → (n : Circuit) → boolean_cost t n ≤ 2 ^ 34 * length n.gates
boolean-low t small n =
    let a : and_count n.gates * t.b_and ≤ length n.gates * 2 ^ 32 = mul-le (and_count n.gates) t.b_and (length n.gates) (2 ^ 32) (count-few _ n.gates) (omega (arith, small.b_and)) in
    let b : depth_of n * t.b_level ≤ length n.gates * 2 ^ 32 = mul-le (depth_of n) t.b_level (length n.gates) (2 ^ 32) (depth-few n) (omega (arith, small.b_level)) in
    omega (arith, a, b)

some-ring-low : (t : Table) → IsSmall t → (r : Option Ring) → unwrap_or (option_map (ring_cost t) r) 0 ≤ 2 ^ 34 * ring_size r
some-ring-low t small None = omega arith
some-ring-low t small (Some r) = ring-low t small r

row-low : (t : Table) → IsSmall t → (v : Variant) → greatest_own (own_costs t v) ≤ 2 ^ 34 * (ring_size v.ring + length v.compact.gates + length v.shallow.gates)
row-low t small v = of-four (unwrap_or (option_map (ring_cost t) v.ring) 0) (yao_cost t v.compact) (boolean_cost t v.compact) (boolean_cost t v.shallow) (ring_size v.ring) (length v.compact.gates) (length v.shallow.gates) (some-ring-low t small v.ring) (yao-low t small v.compact) (boolean-low t small v.compact) (boolean-low t small v.shallow)
  where
    of-four : (a y c s r k n : ℕ) → a ≤ 2 ^ 34 * r → y ≤ 2 ^ 34 * k → c ≤ 2 ^ 34 * k → s ≤ 2 ^ 34 * n → max (max a y) (max c s) ≤ 2 ^ 34 * (r + k + n)
    of-four a y c s r k n h i j l = omega arith

rows-low : (t : Table) → IsSmall t → (vs : List Variant) → sum_by greatest_own (map (own_costs t) vs) ≤ 2 ^ 34 * (sum_by (λ (v : Variant). ring_size v.ring) vs + sum_by (λ (v : Variant). length v.compact.gates) vs + sum_by (λ (v : Variant). length v.shallow.gates) vs)
rows-low t small [] = omega arith
rows-low t small (v ∷ vs) =
    omega (arith, sum_by-cons greatest_own (own_costs t v) (map (own_costs t) vs), sum_by-cons (λ (w : Variant). ring_size w.ring) v vs, sum_by-cons (λ (w : Variant). length w.compact.gates) v vs, sum_by-cons (λ (w : Variant). length w.shallow.gates) v vs, row-low t small v, rows-low t small vs)

-- ---- prices are not too large

word-low : (t : Table) → IsSmall t → (s u : Sharing) (w : Width) → word_price t s u w ≤ 2 ^ 32
word-low t small Arithmetic Arithmetic w = omega arith
word-low t small Arithmetic Boolean w = omega (arith, at-small t.a2b (width_place w) small.a2b)
word-low t small Arithmetic Yao w = omega (arith, at-small t.a2y (width_place w) small.a2y)
word-low t small Boolean Arithmetic w = omega (arith, at-small t.b2a (width_place w) small.b2a)
word-low t small Boolean Boolean w = omega arith
word-low t small Boolean Yao w = omega (arith, at-small t.b2y (width_place w) small.b2y)
word-low t small Yao Arithmetic w = omega (arith, at-small t.y2a (width_place w) small.y2a)
word-low t small Yao Boolean w = omega (arith, at-small t.y2b (width_place w) small.y2b)
word-low t small Yao Yao w = omega arith

words-low : (t : Table) → IsSmall t → (es : List Entry) (ks : List ℕ) (s u : Sharing) → words_price t es ks s u ≤ 2 ^ 32 * length ks
words-low t small es [] s u = omega arith
words-low t small es (k ∷ ks) s u = omega (arith, sum_by-cons (λ j. word_price t s u (width_at es j)) k ks, word-low t small s u (width_at es k), words-low t small es ks s u)

three : (a b c n : ℕ) → a ≤ n → b ≤ n → c ≤ n → max (max a b) c ≤ n
three a b c n h i j = omega arith

fan-low : (t : Table) → IsSmall t → (es : List Entry) (list : List Module) (from : ℕ) (outs to : List ℕ) → greatest_price (fan_to t es list from outs to) ≤ 2 ^ 32 * length (words_to list outs to)
fan-low t small es list from outs to =
    let ks = words_to list outs to in
    let n = 2 ^ 32 * length (words_to list outs to) in
    three _ _ _ n
    (three _ _ _ n (words-low t small es ks Arithmetic Arithmetic) (words-low t small es ks Arithmetic Boolean) (words-low t small es ks Arithmetic Yao))
    (three _ _ _ n (words-low t small es ks Boolean Arithmetic) (words-low t small es ks Boolean Boolean) (words-low t small es ks Boolean Yao))
    (three _ _ _ n (words-low t small es ks Yao Arithmetic) (words-low t small es ks Yao Boolean) (words-low t small es ks Yao Yao))

-- ---- each word goes to one list

none-in : (l : List ℕ) (ls : List (List ℕ)) → (In l ls → ⊥) → sum_by (λ to. cond (bytes_eq l to) 1 0) ls ≡ 0
none-in l [] none = refl
none-in l (m ∷ ls) none = by (bytes_eq l m) refl (none-in l ls (λ i. none (inr i)))
  where
    by : (b : Bool) → bytes_eq l m ≡ b → sum_by (λ to. cond (bytes_eq l to) 1 0) ls ≡ 0 → sum_by (λ to. cond (bytes_eq l to) 1 0) (m ∷ ls) ≡ 0
    by true e rest = absurd (none (inl ((bytes_decides l m).0 e)))
    by false e rest = omega (arith, sum_by-cons (λ to. cond (bytes_eq l to) 1 0) m ls, ap {B = ℕ} (λ b. cond b 1 0) e, rest)

one-in : (l : List ℕ) (ls : List (List ℕ)) → Rising ls → sum_by (λ to. cond (bytes_eq l to) 1 0) ls ≤ 1
one-in l [] r = omega arith
one-in l (m ∷ ls) r = by (bytes_eq l m) refl (one-in l ls r.1)
  where
    by : (b : Bool) → bytes_eq l m ≡ b → sum_by (λ to. cond (bytes_eq l to) 1 0) ls ≤ 1 → sum_by (λ to. cond (bytes_eq l to) 1 0) (m ∷ ls) ≤ 1
    by true e rest =
        let same : l ≡ m = (bytes_decides l m).0 e in
        let apart : In l ls → ⊥ = λ i. not_below m (below-all m ls m r.0 r.1 (subst (λ (x : List ℕ). In x ls) same i)) in
        omega (arith, sum_by-cons (λ to. cond (bytes_eq l to) 1 0) m ls, ap {B = ℕ} (λ b. cond b 1 0) e, none-in l ls apart)
    by false e rest = omega (arith, sum_by-cons (λ to. cond (bytes_eq l to) 1 0) m ls, ap {B = ℕ} (λ b. cond b 1 0) e, rest)

one-more-word : (key : ℕ → List ℕ) (k : ℕ) (outs : List ℕ) (ls : List (List ℕ)) →
    sum_by (λ to. length (filter (λ j. bytes_eq (key j) to) (k ∷ outs))) ls ≡ sum_by (λ to. cond (bytes_eq (key k) to) 1 0) ls + sum_by (λ to. length (filter (λ j. bytes_eq (key j) to) outs)) ls
one-more-word key k outs [] = refl
one-more-word key k outs (m ∷ ls) =
    let here : length (filter (λ j. bytes_eq (key j) m) (k ∷ outs)) ≡ cond (bytes_eq (key k) m) 1 0 + length (filter (λ j. bytes_eq (key j) m) outs) = by (bytes_eq (key k) m) in
    omega (arith, here, one-more-word key k outs ls, sum_by-cons (λ to. length (filter (λ j. bytes_eq (key j) to) (k ∷ outs))) m ls, sum_by-cons (λ to. cond (bytes_eq (key k) to) 1 0) m ls, sum_by-cons (λ to. length (filter (λ j. bytes_eq (key j) to) outs)) m ls)
  where
    by : (b : Bool) → length (cond b (k ∷ filter (λ j. bytes_eq (key j) m) outs) (filter (λ j. bytes_eq (key j) m) outs)) ≡ cond b 1 0 + length (filter (λ j. bytes_eq (key j) m) outs)
    by true = omega arith
    by false = omega arith

no-words-left : (ls : List (List ℕ)) → sum_by {X = List ℕ} (λ to. 0) ls ≡ 0
no-words-left [] = refl
no-words-left (l ∷ ls) = omega (arith, sum_by-cons {X = List ℕ} (λ to. 0) l ls, no-words-left ls)

words-once : (key : ℕ → List ℕ) (outs : List ℕ) (ls : List (List ℕ)) → Rising ls → sum_by (λ to. length (filter (λ j. bytes_eq (key j) to) outs)) ls ≤ length outs
words-once key [] ls r = omega (arith, no-words-left ls)
words-once key (k ∷ outs) ls r = omega (arith, one-more-word key k outs ls, one-in (key k) ls r, words-once key outs ls r)

-- ---- all prices together

own-fans-low : (t : Table) → IsSmall t → (es : List Entry) (list : List Module) (from : ℕ) (outs : List ℕ) (ls : List (List ℕ)) →
    sum_by (λ (f : Fan). 2 * greatest_price f) (map (fan_to t es list from outs) ls) ≤ 2 ^ 33 * sum_by (λ to. length (words_to list outs to)) ls
own-fans-low t small es list from outs [] = omega arith
own-fans-low t small es list from outs (to ∷ ls) =
    omega (arith, sum_by-cons (λ (f : Fan). 2 * greatest_price f) (fan_to t es list from outs to) (map (fan_to t es list from outs) ls), sum_by-cons (λ l. length (words_to list outs l)) to ls, fan-low t small es list from outs to, own-fans-low t small es list from outs ls)

fans-low : (t : Table) → IsSmall t → (es : List Entry) (list : List Module) (ps : List (ℕ × Module)) →
    sum_by (λ (f : Fan). 2 * greatest_price f) (flat_map (fans_from t es list) ps) ≤ 2 ^ 33 * sum_by (λ (p : ℕ × Module). length p.1.outs) ps
fans-low t small es list [] = omega arith
fans-low t small es list (p ∷ ps) =
    omega (
      arith,
      sum_by-append (λ (f : Fan). 2 * greatest_price f) (fans_from t es list p) (flat_map (fans_from t es list) ps),
      sum_by-cons (λ (q : ℕ × Module). length q.1.outs) p ps,
      own-fans-low t small es list p.0 p.1.outs (lists_of list p.1.outs),
      words-once (consumers list) p.1.outs (lists_of list p.1.outs) (folded-rising [] (map (consumers list) p.1.outs) tt),
      fans-low t small es list ps,
    )

-- ---- the problem

has-choice : (t : Table) (vs : List Variant) → Each HasChoice (map (own_costs t) vs)
has-choice t [] = tt
has-choice t (v ∷ vs) = ((Y, refl), has-choice t vs)

pub problem-is : (b : Parts) → IsDraft b → IsGraph b.graph → IsSmall b.table → IsProblem (problem_of b)
problem-is b draft graph small = record {
  choices = each-all HasChoice (map (own_costs b.table) b.variants) (has-choice b.table b.variants);
  fans = subst (λ (n : ℕ). All (IsFan n) (fans_of b.table b.graph b.modules.list)) (sym (rows-count b draft)) (fans-are b draft graph);
  small = omega (
    arith,
    rows-low b.table small b.variants,
    draft.ring_gates,
    draft.compact_gates,
    draft.shallow_gates,
    fans-low b.table small b.graph b.modules.list (enumerate_from 0 b.modules.list),
    sum-enumerated (λ (part : Module). length part.outs) 0 b.modules.list,
    outs-total b draft graph,
    graph.limit,
  );
}
  where
    rows-count : (b : Parts) → IsDraft b → length (map (own_costs b.table) b.variants) ≡ length b.modules.list
    rows-count b draft = length-map b.variants (own_costs b.table) ∙ AreVariants-length b.graph b.modules.list b.variants draft.variants

pub rows-long : (b : Parts) → IsDraft b → length (map (own_costs b.table) b.variants) ≡ length b.modules.list
rows-long b draft = length-map b.variants (own_costs b.table) ∙ AreVariants-length b.graph b.modules.list b.variants draft.variants
