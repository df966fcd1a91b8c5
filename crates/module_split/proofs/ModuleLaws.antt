-- Laws of every cut: its modules share out the nodes, and stand in an order in which each uses earlier ones.
use Rattle.std.proofs.Common.{◌≡◌, ◌⊎◌, inl, inr, ℕ, zero, suc, ◌+◌, ◌-◌, ◌<◌, ◌≤◌, max, min, Bool, true, false, not, ◌&&◌, ◌||◌, cond, eqb, List, [], ◌∷◌, Option, Some, None, is_some, filter, get_or, length, map, slice_get, take, refl, sym, ap, ◌∙◌, subst, arith, add-one}
use Rattle.std.specs.List.{All, Contains, fold, list_any, position, position_or_len, range_with_len, sum_by}
use Rattle.std.proofs.lemmas.Bool.{eqb-true}
use Rattle.std.proofs.lemmas.Option.{slice_get-get_or, slice_get_within, get_or_from_slice_get}
use Rattle.std.proofs.lemmas.List.{get_or_default, length-map}
use Rattle.std.proofs.lemmas.List.Elements.{filter_passes}
use Rattle.std.proofs.lemmas.List.FromFn.{length-range_with_len, get_or-map-range_with_len, get_or-range_with_len}
use Rattle.std.proofs.lemmas.List.Quantifiers.{position-Some}
use Rattle.std.proofs.lemmas.List.Sums.{sum_by-cons}
use Rattle.word_graph.specs.declared.entry.Entry.{Entry}
use Rattle.word_graph.specs.declared.entry.Node.{Node}
use Rattle.word_graph.specs.Term.{taken_by}
use Rattle.hy_bits.specs.declared.width.Width.TheVariants.{W1}
use Rattle.word_graph.specs.Shape.{IsGraph, constant_entry, constant_word}
use Rattle.word_graph.proofs.EntryLaws.{taken_by-earlier}
use Rattle.hy_bits.specs.declared.op.Op.{Op}
use Rattle.hy_bits.specs.declared.op.Op.TheVariants.{In, Const}
use Rattle.module_split.specs.declared.homes.Group.{Group}
use Rattle.module_split.specs.declared.homes.Home.{Home}
use Rattle.module_split.specs.declared.homes.Home.TheVariants.{Constant, Inside}
use Rattle.module_split.specs.declared.module.Module.{Module}
use Rattle.module_split.specs.Homes.{group_of, groups_of, home_at, homes_of, is_ring, layer_of, layer_over}
use Rattle.module_split.specs.Cut.{below, crosses_into, cut_of, entry_takes, ins_of, is_just, is_of, is_result, is_variable, module_of, nodes_of, number_in, numbers_of, order_of, outs_of, same_group, users_of}
use Rattle.module_split.specs.Modules.{ArePartition, AreOrdered, IsInput, IsModuleOf, IsPiece, is_inner, is_inner_entry, is_inner_op}
use Rattle.module_split.specs.Steps.{IsBelow}
use Rattle.module_split.proofs.CutLaws.{numbers-low, length-groups}
use Rattle.module_split.proofs.HomeLaws.{home_at-earlier}
use Rattle.module_split.proofs.OrderLaws.{map-at}
use Rattle.module_split.proofs.UseLaws.{filter_below-low}
use Rattle.module_split.proofs.PieceLaws.{Contains-below, Contains-filtered, IsPiece-of-nodes, and_parts, home-entry, home-inner, inner-of, is_just-some, node-low, number-home, numbers-long}
use Rattle.module_split.proofs.GroupLaws.{fold_max-has, group_of-layer, layer-greater, no_group, order-ascends, order-has, position-found, same_group-layer}

-- ---- lists

eqb-itself : (n : ℕ) → eqb n n ≡ true
eqb-itself n = grind arith

any-has : {A : Type 0} (p : A → Bool) (xs : List A) → list_any p xs ≡ true → (x : A) × Contains xs x × (p x ≡ true)
any-has p [] e = absurd (cc)
any-has {A = A} p (x ∷ xs) e = by (p x) refl (λ later. any-has p xs later) e
  where
    by : (b : Bool) → p x ≡ b → (list_any p xs ≡ true → (y : A) × Contains xs y × (p y ≡ true)) → (b || list_any p xs) ≡ true → (y : A) × Contains (x ∷ xs) y × (p y ≡ true)
    by true t later e2 = (x, (0, omega arith, refl), t)
    by false t later e2 = let rest = later e2 in (rest.0, (suc rest.1.0, omega (arith, rest.1.1), rest.1.2), rest.2)

has-any : {A : Type 0} (p : A → Bool) (xs : List A) (x : A) → Contains xs x → p x ≡ true → list_any p xs ≡ true
has-any p [] x (k, h, e) t = absurd (omega arith)
has-any p (y ∷ xs) x (zero, h, e) t = let here : p y ≡ true = ap p e ∙ t in rw here refl
has-any p (y ∷ xs) x (suc k, h, e) t = or_true (p y) (list_any p xs) (has-any p xs x (k, omega arith, e) t)
  where
    or_true : (a b : Bool) → b ≡ true → (a || b) ≡ true
    or_true true b s = refl
    or_true false b s = s

-- what passes a filter is among what it was given
inside : (p : ℕ → Bool) (xs : List ℕ) (x : ℕ) → Contains (filter p xs) x → Contains xs x
inside p [] x (i, h, e) = absurd (omega arith)
inside p (y ∷ xs) x c = by (p y) (λ d. inside p xs x d) c
  where
    by : (b : Bool) → (Contains (filter p xs) x → Contains xs x) → Contains (cond b (y ∷ filter p xs) (filter p xs)) x → Contains (y ∷ xs) x
    by true rest (zero, h, e) = (0, omega arith, e)
    by true rest (suc i, h, e) = let r = rest (i, omega arith, e) in (suc r.0, omega (arith, r.1), r.2)
    by false rest d = let r = rest d in (suc r.0, omega (arith, r.1), r.2)

passes : (p : ℕ → Bool) (xs : List ℕ) (x : ℕ) → Contains (filter p xs) x → p x ≡ true
passes p xs x (k, h, e) = subst (λ (y : ℕ). p y ≡ true) e (filter_passes p xs k x h)

low-of : (p : ℕ → Bool) (n x : ℕ) → Contains (filter p (below n)) x → x < n
low-of p n x (k, h, e) = subst (λ (y : ℕ). y < n) e (filter_below-low p n k x h)

-- ---- sums by modules

sum_by-same : {A : Type 0} (f g : A → ℕ) → ((x : A) → f x ≡ g x) → (xs : List A) → sum_by f xs ≡ sum_by g xs
sum_by-same f g same [] = refl
sum_by-same f g same (x ∷ xs) = omega (arith, sum_by-cons f x xs, sum_by-cons g x xs, same x, sum_by-same f g same xs)

sum_by-plus : {A : Type 0} (f g : A → ℕ) (xs : List A) → sum_by (λ x. f x + g x) xs ≡ sum_by f xs + sum_by g xs
sum_by-plus f g [] = omega arith
sum_by-plus f g (x ∷ xs) = omega (arith, sum_by-cons (λ y. f y + g y) x xs, sum_by-cons f x xs, sum_by-cons g x xs, sum_by-plus f g xs)

sum_by-nothing : {A : Type 0} (xs : List A) → sum_by (λ x. 0) xs ≡ 0
sum_by-nothing [] = refl
sum_by-nothing (x ∷ xs) = omega (arith, sum_by-cons (λ y. 0) x xs, sum_by-nothing xs)

sum_by-map : {A B : Type 0} (f : B → ℕ) (g : A → B) (xs : List A) → sum_by f (map g xs) ≡ sum_by (λ x. f (g x)) xs
sum_by-map f g [] = refl
sum_by-map f g (x ∷ xs) = omega (arith, sum_by-cons f (g x) (map g xs), sum_by-cons (λ y. f (g y)) x xs, sum_by-map f g xs)

one_of-later : (j x a n : ℕ) → j < a → sum_by (λ m. cond (eqb j m) x 0) (range_with_len a n) ≡ 0
one_of-later j x a zero less = refl
one_of-later j x a (suc n) less =
    let other : eqb j a ≡ false = differs j a less in
    omega (arith, sum_by-cons (λ m. cond (eqb j m) x 0) a (range_with_len (a + 1) n), one_of-later j x (a + 1) n (omega arith), ap (λ b. cond b x 0) other)
  where
    differs : (i k : ℕ) → i < k → eqb i k ≡ false
    differs i k h = grind arith

one_of : (j x a n : ℕ) → a ≤ j → j < a + n → sum_by (λ m. cond (eqb j m) x 0) (range_with_len a n) ≡ x
one_of j x a zero le less = absurd (omega arith)
one_of j x a (suc n) le less = elim (here_or_later a j le) [
  | inl here ↦
      let is : eqb j a ≡ true = ap (eqb j) here ∙ eqb-itself j in
      omega (arith, sum_by-cons (λ m. cond (eqb j m) x 0) a (range_with_len (a + 1) n), one_of-later j x (a + 1) n (omega (arith, here)), ap (λ b. cond b x 0) is)
  | inr later ↦
      let other : eqb j a ≡ false = differs j a later in
      omega (arith, sum_by-cons (λ m. cond (eqb j m) x 0) a (range_with_len (a + 1) n), one_of j x (a + 1) n later (omega arith), ap (λ b. cond b x 0) other)
]
  where
    here_or_later : (i k : ℕ) → i ≤ k → (i ≡ k) ⊎ (i + 1 ≤ k)
    here_or_later i k h = grind arith

    differs : (i k : ℕ) → k + 1 ≤ i → eqb i k ≡ false
    differs i k h = grind arith

in_one : (o : Option ℕ) (x count : ℕ) → IsBelow count o → sum_by (λ m. cond (is_just o m) x 0) (below count) ≡ cond (is_some o) x 0
in_one None x count low = sum_by-nothing (below count)
in_one (Some j) x count low = one_of j x 0 count (omega arith) (omega arith)

sum-filter : (f : ℕ → ℕ) (b : Bool) (k : ℕ) (ks : List ℕ) → sum_by f (cond b (k ∷ ks) ks) ≡ cond b (f k) 0 + sum_by f ks
sum-filter f true k ks = sum_by-cons f k ks
sum-filter f false k ks = omega arith

module _ (numbers : List (Option ℕ)) (count : ℕ) (f : ℕ → ℕ) (inner : ℕ → Bool) where
  -- where each of the numbers is below the count, the sums by numbers are the sum of those that have one
  sums-by : (ks : List ℕ) → ((k : ℕ) → Contains ks k → IsBelow count (get_or numbers k None) × (is_some (get_or numbers k None) ≡ inner k)) →
      sum_by (λ m. sum_by f (filter (is_of numbers m) ks)) (below count) ≡ sum_by f (filter inner ks)
  sums-by [] each = sum_by-nothing (below count)
  sums-by (k ∷ ks) each =
      let here = each k (0, omega arith, refl) in
      let rest = sums-by ks (λ j c. each j (suc c.0, omega (arith, c.1), c.2)) in
      sum_by-same (λ m. sum_by f (filter (is_of numbers m) (k ∷ ks))) (λ m. cond (is_of numbers m k) (f k) 0 + sum_by f (filter (is_of numbers m) ks)) (λ m. sum-filter f (is_of numbers m k) k (filter (is_of numbers m) ks)) (below count)
      ∙ sum_by-plus (λ m. cond (is_of numbers m k) (f k) 0) (λ m. sum_by f (filter (is_of numbers m) ks)) (below count)
      ∙ ap (λ n. n + sum_by (λ m. sum_by f (filter (is_of numbers m) ks)) (below count)) (in_one (get_or numbers k None) (f k) count here.0 ∙ ap (λ b. cond b (f k) 0) here.1)
      ∙ ap (λ n. cond (inner k) (f k) 0 + n) rest
      ∙ sym (sum-filter f (inner k) k (filter inner ks))

-- ---- a cut

module _ (es : List Entry) (results : List Node) (layers : ℕ) (graph : IsGraph es) (some : 0 < layers) where
  abbrev homes : List Home
  homes = homes_of layers es

  abbrev groups : List (Option Group)
  groups = groups_of layers es

  abbrev order : List Group
  order = order_of layers groups

  abbrev numbers : List (Option ℕ)
  numbers = numbers_of order groups

  abbrev piece : ℕ → Module
  piece m = module_of es homes order numbers results m

  abbrev list : List Module
  list = (cut_of es results layers).list

  long : length numbers ≡ length es
  long = numbers-long es results layers 0 graph

  part-at : (m : ℕ) → m < length order → slice_get list m ≡ Some (piece m)
  part-at m within =
      slice_get-get_or list m (piece m) (omega (arith, length-map (below (length order)) piece, length-range_with_len 0 (length order)))
      ∙ ap Some (get_or-map-range_with_len piece 0 (length order) m m (piece m) within (omega arith))

  part-is : (m : ℕ) (part : Module) → slice_get list m ≡ Some part → (m < length order) × (piece m ≡ part)
  part-is m part s =
      let within : m < length order = omega (arith, slice_get_within list m part s, length-map (below (length order)) piece, length-range_with_len 0 (length order)) in
      (within, sym (get_or-map-range_with_len piece 0 (length order) m m part within (omega arith)) ∙ get_or_from_slice_get list m part part s)

  -- ---- the group and the number of a node that lies in a module

  inner-home : (k : ℕ) (e : Entry) → slice_get es k ≡ Some e → is_inner_op e.op ≡ true →
      (g : Group) × (home_at homes k ≡ Inside g) × (g.layer < layers) × (g ≡ record { ring = is_ring (homes_of layers (take k es)) e; layer = layer_of layers (homes_of layers (take k es)) e; region = e.region })
  inner-home k e s inner =
      let made : Group = record { ring = is_ring (homes_of layers (take k es)) e; layer = layer_of layers (homes_of layers (take k es)) e; region = e.region } in
      (made, home-entry es results layers 0 graph k e s ∙ home-inner e.op made inner, omega arith, refl)

  number-of : (k : ℕ) (g : Group) → k < length es → home_at homes k ≡ Inside g → g.layer < layers →
      (m : ℕ) × (get_or numbers k None ≡ Some m) × (m < length order) × ((get_or order m no_group).layer ≡ g.layer)
  number-of k g low home low_layer =
      let h = group_of-layer layers g in
      let group : get_or groups k None ≡ Some h.0 = map-at (group_of layers) homes k Constant ∙ ap (group_of layers) home ∙ h.1 in
      let wide : length groups ≡ length es = length-groups es layers homes groups refl refl in
      let among : Contains groups (Some h.0) = (k, omega (arith, wide), get_or_default groups k (Some h.0) None (omega (arith, wide)) ∙ group) in
      let found : position (same_group h.0) order ≡ Some (position_or_len (same_group h.0) order) = position-found (same_group h.0) order (order-has layers h.0 groups among (omega (arith, h.2))) in
      let at = position-Some (same_group h.0) order (position_or_len (same_group h.0) order) no_group found in (
        position_or_len (same_group h.0) order,
        map-at (number_in order) groups k None ∙ ap (number_in order) group ∙ found,
        at.0,
        sym (same_group-layer h.0 (get_or order (position_or_len (same_group h.0) order) no_group) at.1) ∙ h.2,
      )

  entry-at : (k : ℕ) → is_inner es k ≡ true → (e : Entry) × (slice_get es k ≡ Some e) × (is_inner_op e.op ≡ true)
  entry-at k inner = by (slice_get es k) refl inner
    where
      by : (o : Option Entry) → slice_get es k ≡ o → is_inner_entry o ≡ true → (e : Entry) × (slice_get es k ≡ Some e) × (is_inner_op e.op ≡ true)
      by None s t = absurd (cc)
      by (Some e) s t = (e, s, t)

  -- what is known of a node that lies in a module
  record Placed (k : ℕ) : Type 0 where
    entry : Entry
    stands : slice_get es k ≡ Some entry
    group : Group
    home : home_at homes k ≡ Inside group
    low : group.layer < layers
    made : group ≡ record { ring = is_ring (homes_of layers (take k es)) entry; layer = layer_of layers (homes_of layers (take k es)) entry; region = entry.region }
    number : ℕ
    numbered : get_or numbers k None ≡ Some number
    within : number < length order
    by_layer : (get_or order number no_group).layer ≡ group.layer

  placed : (k : ℕ) → is_inner es k ≡ true → Placed k
  placed k inner =
      let e = entry-at k inner in
      let g = inner-home k e.0 e.1 e.2 in
      let m = number-of k g.0 (slice_get_within es k e.0 e.1) g.1 g.2 in
      record { entry = e.0; stands = e.1; group = g.0; home = g.1; low = g.2; made = g.3; number = m.0; numbered = m.1; within = m.2; by_layer = m.3 }

  is_of-number : (k m : ℕ) → get_or numbers k None ≡ Some m → is_of numbers m k ≡ true
  is_of-number k m e = ap (λ (o : Option ℕ). is_just o m) e ∙ eqb-itself m

  node-in : (k m : ℕ) → k < length es → get_or numbers k None ≡ Some m → Contains (nodes_of numbers m) k
  node-in k m low e = Contains-filtered (is_of numbers m) (below (length numbers)) k (Contains-below (length numbers) k (omega (arith, long))) (is_of-number k m e)

  number-in : (k m : ℕ) → Contains (nodes_of numbers m) k → get_or numbers k None ≡ Some m
  number-in k m c = is_just-some (get_or numbers k None) m (passes (is_of numbers m) (below (length numbers)) k c)

  covers : (k : ℕ) → k < length es → is_inner es k ≡ true → (m : ℕ) × (part : Module) × (slice_get list m ≡ Some part) × Contains part.nodes k
  covers k low inner = let p = placed k inner in (p.number, piece p.number, part-at p.number p.within, node-in k p.number low p.numbered)

  once : (k i j : ℕ) (p q : Module) → slice_get list i ≡ Some p → slice_get list j ≡ Some q → Contains p.nodes k → Contains q.nodes k → i ≡ j
  once k i j p q s t c d =
      let first : get_or numbers k None ≡ Some i = number-in k i (subst (λ (m : Module). Contains m.nodes k) (sym (part-is i p s).1) c) in
      let second : get_or numbers k None ≡ Some j = number-in k j (subst (λ (m : Module). Contains m.nodes k) (sym (part-is j q t).1) d) in
      cc

  has-number : (k : ℕ) → k < length es → is_some (get_or numbers k None) ≡ is_inner es k
  has-number k low = by (is_inner es k) refl (get_or numbers k None) refl
    where
      by : (b : Bool) → is_inner es k ≡ b → (o : Option ℕ) → get_or numbers k None ≡ o → is_some o ≡ b
      by true inner (Some m) e = refl
      by true inner None e = let p = placed k inner in let n = p.numbered in absurd (cc)
      by false outer None e = refl
      by false outer (Some m) e = let t = inner-of es results layers m graph k low (is_of-number k m e) in absurd (cc)

  sums : (f : ℕ → ℕ) → sum_by (λ part. sum_by f part.nodes) list ≡ sum_by f (filter (is_inner es) (below (length es)))
  sums f =
      sum_by-map (λ (part : Module). sum_by f part.nodes) piece (below (length order))
      ∙ sums-by numbers (length order) f (is_inner es) (below (length numbers))
      (λ k c. let low : k < length es = omega (arith, long, below-low k c) in (numbers-low order groups k None (omega (arith, long)), has-number k low))
      ∙ ap (λ (n : ℕ). sum_by f (filter (is_inner es) (below n))) long
    where
      below-low : (k : ℕ) → Contains (below (length numbers)) k → k < length numbers
      below-low k (i, h, e) = omega (arith, length-range_with_len 0 (length numbers), at-place i (length numbers) k (omega (arith, length-range_with_len 0 (length numbers))), e)
        where
          at-place : (i n d : ℕ) → i < n → get_or (below n) i d ≡ i
          at-place i n d less = get_or-range_with_len 0 n i d less ∙ omega arith

  pub ArePartition-of : ArePartition es list
  ArePartition-of = record { covers = covers; once = once; sums = sums }

  -- ---- the order

  -- what a node of another module uses lies in an earlier one
  module-earlier : (u k : ℕ) (e : Entry) → slice_get es u ≡ Some e → Contains (taken_by e) k → (p : Placed u) (q : Placed k) → (q.number ≡ p.number → ⊥) → q.number < p.number
  module-earlier u k e s c p q apart =
      let less : k < u = subst (λ (x : ℕ). x < u) c.2 (taken_by-earlier es u e graph s c.0 k c.1) in
      let same_entry : p.entry ≡ e = entry_same (slice_get es u) p.stands s in
      let so_far : List Home = homes_of layers (take u es) in
      let home_k : home_at so_far k ≡ Inside q.group = home_at-earlier layers es k u less (omega (arith, slice_get_within es u e s)) ∙ q.home in
      let over : layer_over (is_ring so_far e) e.region (home_at so_far k) ≤ fold max 0 (map (λ j. layer_over (is_ring so_far e) e.region (home_at so_far j)) (taken_by e)) =
      fold_max-has 0 (map (λ j. layer_over (is_ring so_far e) e.region (home_at so_far j)) (taken_by e)) (layer_over (is_ring so_far e) e.region (home_at so_far k))
      (c.0, omega (arith, c.1, length-map (taken_by e) (λ j. layer_over (is_ring so_far e) e.region (home_at so_far j))), mapped (λ j. layer_over (is_ring so_far e) e.region (home_at so_far j)) (taken_by e) c.0 k c.1 c.2) in
      let group_u : p.group ≡ record { ring = is_ring so_far e; layer = layer_of layers so_far e; region = e.region } = p.made ∙ made_same same_entry in
      let rings : p.group.ring ≡ is_ring so_far e = ap (λ (g : Group). g.ring) group_u in
      let regions : p.group.region ≡ e.region = ap (λ (g : Group). g.region) group_u in
      let layer_u : p.group.layer ≡ layer_of layers so_far e = ap (λ (g : Group). g.layer) group_u in
      let bound : min (layers - 1) (layer_over p.group.ring p.group.region (Inside q.group)) ≤ p.group.layer =
      rw (rings, regions, layer_u) (subst (λ (h : Home). min (layers - 1) (layer_over (is_ring so_far e) e.region h) ≤ layer_of layers so_far e) home_k (omega (arith, over))) in
      let greater : q.group.layer < p.group.layer =
      layer-greater layers p.group q.group p.low q.low bound (λ same. apart (numbers_same same)) in
      ordered q.number p.number q.within (omega (arith, greater, p.by_layer, q.by_layer))
    where
      entry_same : (o : Option Entry) {x y : Entry} → o ≡ Some x → o ≡ Some y → x ≡ y
      entry_same o a b = cc

      made_same : p.entry ≡ e →
          (let g : Group = record { ring = is_ring (homes_of layers (take u es)) p.entry; layer = layer_of layers (homes_of layers (take u es)) p.entry; region = p.entry.region } in g)
          ≡ record { ring = is_ring (homes_of layers (take u es)) e; layer = layer_of layers (homes_of layers (take u es)) e; region = e.region }
      made_same same = ap (λ (x : Entry). let g : Group = record { ring = is_ring (homes_of layers (take u es)) x; layer = layer_of layers (homes_of layers (take u es)) x; region = x.region } in g) same

      mapped : (f : ℕ → ℕ) (xs : List ℕ) (i x : ℕ) → i < length xs → get_or xs i x ≡ x → get_or (map f xs) i (f x) ≡ f x
      mapped f xs i x within e2 = map-at f xs i x ∙ ap f e2

      numbers_same : group_of layers (Inside p.group) ≡ group_of layers (Inside q.group) → q.number ≡ p.number
      numbers_same same =
          let here : get_or numbers k None ≡ get_or numbers u None =
          number-home es results layers 0 graph k ∙ ap (λ (h : Home). number_in order (group_of layers h)) q.home ∙ ap (number_in order) (sym same)
          ∙ sym (number-home es results layers 0 graph u ∙ ap (λ (h : Home). number_in order (group_of layers h)) p.home) in
          let first = q.numbered in
          let second = p.numbered in
          cc

      ordered : (j m : ℕ) → j < length order → (get_or order j no_group).layer < (get_or order m no_group).layer → j < m
      ordered j m within less = elim (less_or_not j m) [
        | inl yes_less ↦ yes_less
        | inr more ↦ absurd (omega (arith, less, (order-ascends layers groups).0 m j more within))
      ]
        where
          less_or_not : (a b : ℕ) → (a < b) ⊎ (b ≤ a)
          less_or_not a b = grind arith

  -- a user's entry, and what it takes
  user-entry : (k u : ℕ) → Contains (users_of es k) u → (e : Entry) × (slice_get es u ≡ Some e) × Contains (taken_by e) k
  user-entry k u c = by (slice_get es u) refl (passes (λ user. entry_takes (slice_get es user) k) (below (length es)) u c)
    where
      by : (o : Option Entry) → slice_get es u ≡ o → entry_takes o k ≡ true → (e : Entry) × (slice_get es u ≡ Some e) × Contains (taken_by e) k
      by None s t = absurd (cc)
      by (Some e) s t =
          let a = any-has (λ x. eqb x k) (taken_by e) t in
          (e, s, subst (Contains (taken_by e)) (eqb-true a.0 k a.2) a.1)

  out-of : (k m : ℕ) → Contains (nodes_of numbers m) k → (is_result results k || list_any (λ user. not (is_of numbers m user)) (users_of es k)) ≡ true → Contains (outs_of es numbers results m) k
  out-of k m c t = Contains-filtered (λ j. is_result results j || list_any (λ user. not (is_of numbers m user)) (users_of es j)) (nodes_of numbers m) k c t

  or_true : (a b : Bool) → b ≡ true → (a || b) ≡ true
  or_true true b e = refl
  or_true false b e = e

  kind : (k : ℕ) → k < length es → is_variable es k ≡ true → IsInput es k ⊎ (is_inner es k ≡ true)
  kind k low variable = by (get_or es k nothing) (slice_get-get_or es k nothing low)
    where
      nothing : Entry
      nothing = record { op = In; width = W1; args = []; number = 0; region = 0 }

      by_op : (op : Op) (n : ℕ) → not (is_some (constant_word op n)) ≡ true → (op ≡ In) ⊎ (is_inner_op op ≡ true)
      by_op In n t = inl refl
      by_op Const n t = absurd (cc)
      by_op _ n t = inr refl

      by : (e : Entry) → slice_get es k ≡ Some e → IsInput es k ⊎ (is_inner es k ≡ true)
      by e s = elim (by_op e.op e.number (ap (λ (o : Option Entry). not (is_some (constant_entry o))) (sym s) ∙ variable)) [
        | inl is ↦ inl (e, s, is)
        | inr inner ↦ inr (ap is_inner_entry s ∙ inner)
      ]

  -- an out of its module: a node that a node of another module uses
  earlier-at : (m k : ℕ) → Contains (ins_of es numbers m) k → IsInput es k ⊎ ((j : ℕ) × (p : Module) × (j < m) × (slice_get list j ≡ Some p) × Contains p.outs k)
  earlier-at m k c =
      let variable : is_variable es k ≡ true = passes (is_variable es) (below (length es)) k (inside (crosses_into es numbers m) (filter (is_variable es) (below (length es))) k c) in
      let low : k < length es = low-of (is_variable es) (length es) k (inside (crosses_into es numbers m) (filter (is_variable es) (below (length es))) k c) in
      let crossing = and_parts (not (is_of numbers m k)) (list_any (is_of numbers m) (users_of es k)) (passes (crosses_into es numbers m) (filter (is_variable es) (below (length es))) k c) in
      let user = any-has (is_of numbers m) (users_of es k) crossing.1 in
      let entry = user-entry k user.0 user.1 in
      let user_low : user.0 < length es = slice_get_within es user.0 entry.0 entry.1 in
      let p = placed user.0 (inner-of es results layers m graph user.0 user_low user.2) in
      let of_m : p.number ≡ m = numbers_agree (get_or numbers user.0 None) p.numbered (is_just-some (get_or numbers user.0 None) m user.2) in
      elim (kind k low variable) [
        | inl input ↦ inl input
        | inr inner ↦
            let q = placed k inner in
            let apart : (q.number ≡ p.number → ⊥) = λ same. outside (is_of numbers m k) crossing.0 (is_of-number k m (q.numbered ∙ ap Some (same ∙ of_m))) in
            let before : q.number < p.number = module-earlier user.0 k entry.0 entry.1 entry.2 p q apart in
            let not_own : is_of numbers q.number user.0 ≡ false = other_number q.number m user.0 (is_just-some (get_or numbers user.0 None) m user.2) (omega (arith, before, of_m)) in
            let used : list_any (λ u. not (is_of numbers q.number u)) (users_of es k) ≡ true = has-any (λ u. not (is_of numbers q.number u)) (users_of es k) user.0 user.1 (ap not not_own) in
            inr (
              q.number,
              piece q.number,
              omega (arith, before, of_m),
              part-at q.number q.within,
              out-of k q.number (node-in k q.number low q.numbered) (or_true (is_result results k) (list_any (λ u. not (is_of numbers q.number u)) (users_of es k)) used),
            )
      ]
    where
      numbers_agree : (o : Option ℕ) {a b : ℕ} → o ≡ Some a → o ≡ Some b → a ≡ b
      numbers_agree o x y = cc

      outside : (b : Bool) → not b ≡ true → b ≡ true → ⊥
      outside true x y = cc
      outside false x y = cc

      other_number : (a b u : ℕ) → get_or numbers u None ≡ Some b → a < b → is_of numbers a u ≡ false
      other_number a b u e less = ap (λ (o : Option ℕ). is_just o a) e ∙ differs b a less
        where
          differs : (x y : ℕ) → y < x → eqb x y ≡ false
          differs x y h = grind arith

  result-at : (node : Node) → Contains results node → is_inner es node.index ≡ true → (m : ℕ) × (part : Module) × (slice_get list m ≡ Some part) × Contains part.outs node.index
  result-at node c inner =
      let q = placed node.index inner in
      let low : node.index < length es = slice_get_within es node.index q.entry q.stands in
      let is : is_result results node.index ≡ true = has-any (λ n. eqb n.index node.index) results node c (eqb-itself node.index) in
      (q.number, piece q.number, part-at q.number q.within, out-of node.index q.number (node-in node.index q.number low q.numbered) (or_left (is_result results node.index) (list_any (λ u. not (is_of numbers q.number u)) (users_of es node.index)) is))
    where
      or_left : (a b : Bool) → a ≡ true → (a || b) ≡ true
      or_left true b e = refl
      or_left false b e = absurd (cc)

  pub AreOrdered-of : AreOrdered es results list
  AreOrdered-of = record {
    earlier = λ m k part s c. earlier-at m k (subst (λ (p : Module). Contains p.ins k) (sym (part-is m part s).1) c);
    last = result-at;
  }

-- one module of a cut
pub IsPiece-of : (es : List Entry) (part : Module) → IsGraph es → IsModuleOf es part → IsPiece es part.nodes part.ins part.outs
IsPiece-of es part graph r =
    let m : ℕ = r.cut.0 in
    let groups : List (Option Group) = groups_of r.layers es in
    let order : List Group = order_of r.layers groups in
    let cut_at : ℕ → Module = module_of es (homes_of r.layers es) order (numbers_of order groups) r.results in
    let within : m < length order = omega (arith, r.cut.1, length-map (below (length order)) cut_at, length-range_with_len 0 (length order)) in
    let is : cut_at m ≡ part = sym (get_or-map-range_with_len cut_at 0 (length order) m m part within (omega arith)) ∙ r.cut.2 in
    subst (λ (p : Module). IsPiece es p.nodes p.ins p.outs) is (IsPiece-of-nodes es r.results r.layers m graph)
