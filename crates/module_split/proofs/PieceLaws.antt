-- The nodes of a module, what they use and what they give.
use Rattle.std.proofs.Common.{◌≡◌, ◌⊎◌, inl, inr, ℕ, zero, suc, ◌+◌, ◌*◌, ◌<◌, ◌≤◌, Bool, true, false, not, ◌&&◌, cond, eqb, List, [], ◌∷◌, ◌++◌, Option, Some, None, get_or, take, length, filter, slice_get, refl, sym, ap, ◌∙◌, subst, arith, length-append, add-one}
use Rattle.std.specs.List.{All, Contains, list_any}
use Rattle.std.proofs.lemmas.Bool.{eq-eqb, eqb-true}
use Rattle.std.proofs.lemmas.Option.{slice_get_within, get_or_from_slice_get}
use Rattle.std.proofs.lemmas.Grind.{get_or_default_zero}
use Rattle.std.proofs.lemmas.List.{append-nil, get_or_append_left, get_or_push, length_push, length-map, length-take-le, get_or-take, take-append-le, take_all}
use Rattle.std.proofs.lemmas.List.Elements.{All-append, All-filter, Contains-append_left, Contains-append_right, filter_passes}
use Rattle.std.proofs.lemmas.List.Folds.{list_any_at}
use Rattle.std.proofs.lemmas.List.Sums.{count_by-le-length, length-filter}
use Rattle.std.proofs.lemmas.List.FromFn.{length-range_with_len, get_or-range_with_len}
use Rattle.hy_bits.specs.declared.op.Op.{Op}
use Rattle.hy_bits.specs.declared.op.Op.TheVariants.{In, Const}
use Rattle.word_graph.specs.declared.entry.Entry.{Entry}
use Rattle.word_graph.specs.declared.entry.Node.{Node}
use Rattle.word_graph.specs.Term.{arity, taken_by}
use Rattle.word_graph.specs.Shape.{IsGraph, constant_at, node_limit}
use Rattle.word_graph.proofs.EntryLaws.{AreEntries-at, arity-three, taken_by-earlier}
use Rattle.module_split.specs.declared.homes.Group.{Group}
use Rattle.module_split.specs.declared.homes.Home.{Home}
use Rattle.module_split.specs.declared.homes.Home.TheVariants.{Input, Constant, Inside}
use Rattle.module_split.specs.Homes.{group_of, groups_of, home_at, home_of, home_of_operation, homes_of, is_ring, layer_of}
use Rattle.module_split.specs.Cut.{below, crosses_into, entry_takes, ins_of, is_just, is_of, is_variable, nodes_of, number_in, numbers_of, order_of, outs_of, users_of}
use Rattle.module_split.specs.Modules.{IsPiece, is_inner, is_inner_entry, is_inner_op}
use Rattle.module_split.specs.Steps.{IsDistinct, and_then}
use Rattle.module_split.proofs.HomeLaws.{home_at-place}
use Rattle.module_split.proofs.OrderLaws.{map-at}
use Rattle.module_split.proofs.UseLaws.{filter_below-low, filter_below-more, test_cases}
use Rattle.module_split.proofs.CutLaws.{distinct-append, distinct-filter_below, length-homes}

-- ---- filters of the numbers below a number

pub Contains-filtered : (p : ℕ → Bool) (xs : List ℕ) (x : ℕ) → Contains xs x → p x ≡ true → Contains (filter p xs) x
Contains-filtered p [] x (k, h, e) t = absurd (omega arith)
Contains-filtered p (y ∷ ys) x (zero, h, e) t =
    let same : y ≡ x = e in
    let here : p y ≡ true = ap p same ∙ t in
    rw here (0, omega arith, e)
Contains-filtered p (y ∷ ys) x (suc k, h, e) t = by (p y) (Contains-filtered p ys x (k, omega arith, e) t)
  where
    by : (b : Bool) → Contains (filter p ys) x → Contains (cond b (y ∷ filter p ys) (filter p ys)) x
    by true c = (suc c.0, omega (arith, c.1), c.2)
    by false c = c

pub Contains-below : (n k : ℕ) → k < n → Contains (below n) k
Contains-below n k h = (k, omega (arith, length-range_with_len 0 n), get_or-range_with_len 0 n k k h ∙ omega arith)

filter-filter : (p q : ℕ → Bool) (xs : List ℕ) → filter p (filter q xs) ≡ filter (λ x. q x && p x) xs
filter-filter p q [] = refl
filter-filter p q (x ∷ xs) = by (q x) (filter-filter p q xs)
  where
    by : (b : Bool) → filter p (filter q xs) ≡ filter (λ y. q y && p y) xs → filter p (cond b (x ∷ filter q xs) (filter q xs)) ≡ cond (b && p x) (x ∷ filter (λ y. q y && p y) xs) (filter (λ y. q y && p y) xs)
    by true e = ap (λ (ys : List ℕ). cond (p x) (x ∷ ys) ys) e
    by false e = e

-- those that come before the one at a place are those below it
take-filter_below : (p : ℕ → Bool) (n i : ℕ) → i < length (filter p (below n)) → take i (filter p (below n)) ≡ filter p (below (get_or (filter p (below n)) i 0))
take-filter_below p zero i h = absurd (omega arith)
take-filter_below p (suc n) i h =
    let more : filter p (below (suc n)) ≡ and_then (filter p (below n)) (p n) n = ap (λ (k : ℕ). filter p (below k)) (sym (add-one n)) ∙ filter_below-more p n in
    rw more (by (p n) (subst (λ (xs : List ℕ). i < length xs) more h) (take-filter_below p n i))
  where
    by : (b : Bool) → i < length (and_then (filter p (below n)) b n) → (i < length (filter p (below n)) → take i (filter p (below n)) ≡ filter p (below (get_or (filter p (below n)) i 0))) →
        take i (and_then (filter p (below n)) b n) ≡ filter p (below (get_or (and_then (filter p (below n)) b n) i 0))
    by false within before = rw append-nil (before (subst (λ (xs : List ℕ). i < length xs) (append-nil (filter p (below n))) within))
    by true within before = elim (earlier_or_last i (length (filter p (below n))) (omega (arith, length_push (filter p (below n)) n, within))) [
      | inl earlier ↦
          let early : i ≤ length (filter p (below n)) = omega arith in
          take-append-le i (filter p (below n)) (n ∷ []) early ∙ before earlier ∙ ap (λ (k : ℕ). filter p (below k)) (sym (get_or_append_left (filter p (below n)) (n ∷ []) 0 i earlier))
      | inr last ↦
          let early : i ≤ length (filter p (below n)) = omega arith in
          take-append-le i (filter p (below n)) (n ∷ []) early ∙ take_all i (filter p (below n)) (omega arith) ∙ ap (λ (k : ℕ). filter p (below k)) (sym (get_or_push (filter p (below n)) n 0 i (sym last)))
    ]
      where
        earlier_or_last : (a b : ℕ) → a < b + 1 → (a < b) ⊎ (a ≡ b)
        earlier_or_last a b h2 = grind arith

-- ---- homes and numbers

pub is_just-some : (o : Option ℕ) (m : ℕ) → is_just o m ≡ true → o ≡ Some m
is_just-some None m t = absurd (cc)
is_just-some (Some k) m t = ap Some (eqb-true k m t)

pub and_parts : (a b : Bool) → (a && b) ≡ true → (a ≡ true) × (b ≡ true)
and_parts true true e = (refl, refl)
and_parts true false e = absurd (cc)
and_parts false b e = absurd (cc)

-- the home of an operation, by what it is
pub home-inner : (op : Op) (made : Group) → is_inner_op op ≡ true → home_of_operation op made ≡ Inside made
home-inner In made inner = absurd (cc)
home-inner Const made inner = absurd (cc)
home-inner _ made inner = refl

group-outer : (layers : ℕ) (op : Op) (made : Group) → is_inner_op op ≡ false → group_of layers (home_of_operation op made) ≡ None
group-outer layers In made outer = refl
group-outer layers Const made outer = refl
group-outer layers _ made outer = absurd (cc)

module _ (es : List Entry) (results : List Node) (layers m : ℕ) (graph : IsGraph es) where
  abbrev pub order : List Group
  order = order_of layers (groups_of layers es)

  abbrev pub numbers : List (Option ℕ)
  numbers = numbers_of order (groups_of layers es)

  abbrev pub nodes : List ℕ
  nodes = nodes_of numbers m

  abbrev pub ins : List ℕ
  ins = ins_of es numbers m

  abbrev pub outs : List ℕ
  outs = outs_of es numbers results m

  pub numbers-long : length numbers ≡ length es
  numbers-long = length-map (groups_of layers es) (number_in order) ∙ length-map (homes_of layers es) (group_of layers) ∙ length-homes layers es

  -- ---- the nodes

  pub node-of : (i : ℕ) → i < length nodes → is_of numbers m (get_or nodes i 0) ≡ true
  node-of i h = filter_passes (is_of numbers m) (below (length numbers)) i 0 h

  pub node-low : (i : ℕ) → i < length nodes → get_or nodes i 0 < length es
  node-low i h = omega (arith, filter_below-low (is_of numbers m) (length numbers) i 0 h, numbers-long)

  -- ---- what they use

  pub ins-are : ins ≡ filter (λ k. is_variable es k && crosses_into es numbers m k) (below (length es))
  ins-are = filter-filter (crosses_into es numbers m) (is_variable es) (below (length es))

  pub ins-outside : (i : ℕ) → i < length ins → is_of numbers m (get_or ins i 0) ≡ false
  ins-outside i h = not_true (is_of numbers m (get_or ins i 0)) (and_parts (not (is_of numbers m (get_or ins i 0))) _ (filter_passes (crosses_into es numbers m) (filter (is_variable es) (below (length es))) i 0 h)).0
    where
      not_true : (b : Bool) → not b ≡ true → b ≡ false
      not_true true e = absurd (cc)
      not_true false e = refl

  -- a user of a node stands among its users
  pub used : (k a : ℕ) (e : Entry) → slice_get es k ≡ Some e → Contains (taken_by e) a → Contains (users_of es a) k
  used k a e s c =
      let takes : list_any (λ x. eqb x a) (taken_by e) ≡ true = list_any_at (λ x. eqb x a) (taken_by e) c.0 a c.1 (eq-eqb (get_or (taken_by e) c.0 a) a c.2) in
      Contains-filtered (λ user. entry_takes (slice_get es user) a) (below (length es)) k (Contains-below (length es) k (slice_get_within es k e s)) (rw s takes)

  -- what a node uses of outside is among the ins
  pub crosses : (k a : ℕ) (e : Entry) → slice_get es k ≡ Some e → Contains (taken_by e) a → a < length es → constant_at es a ≡ None → is_of numbers m k ≡ true → is_of numbers m a ≡ false → Contains ins a
  crosses k a e s c low none here outside =
      let u = used k a e s c in
      let some : list_any (is_of numbers m) (users_of es a) ≡ true = list_any_at (is_of numbers m) (users_of es a) u.0 k u.1 (ap (is_of numbers m) u.2 ∙ here) in
      let variable : is_variable es a ≡ true = rw none refl in
      Contains-filtered (crosses_into es numbers m) (filter (is_variable es) (below (length es))) a
      (Contains-filtered (is_variable es) (below (length es)) a (Contains-below (length es) a low) variable)
      (rw (outside, some) refl)

  -- what it uses of the module is among the nodes before it
  inner : (i a : ℕ) → i < length nodes → a < get_or nodes i 0 → is_of numbers m a ≡ true → Contains (take i nodes) a
  inner i a h less here =
      subst (λ (xs : List ℕ). Contains xs a) (sym (take-filter_below (is_of numbers m) (length numbers) i h))
      (Contains-filtered (is_of numbers m) (below (get_or nodes i 0)) a (Contains-below (get_or nodes i 0) a less) here)

  known : (i j : ℕ) (e : Entry) → i < length nodes → slice_get es (get_or nodes i 0) ≡ Some e → j < arity e.op → constant_at es (get_or e.args j 0) ≡ None → Contains (ins ++ take i nodes) (get_or e.args j 0)
  known i j e h s within none =
      let entry = AreEntries-at [] es (get_or nodes i 0) e graph.entries s in
      let three : length e.args ≡ 3 = entry.fits.three in
      let long : length (taken_by e) ≡ arity e.op = length-take-le (arity e.op) e.args (omega (arith, three, arity-three e.op)) in
      let a : ℕ = get_or e.args j 0 in
      let at_a : get_or (taken_by e) j a ≡ a = get_or-take (arity e.op) e.args j a within ∙ get_or_default_zero e.args j a (omega (arith, three, arity-three e.op)) in
      let taken : Contains (taken_by e) a = (j, omega (arith, long), at_a) in
      let less : a < get_or nodes i 0 = subst (λ (x : ℕ). x < get_or nodes i 0) at_a (taken_by-earlier es (get_or nodes i 0) e graph s j a (omega (arith, long))) in
      elim (test_cases (is_of numbers m a)) [
        | inl inside ↦ Contains-append_right ins (take i nodes) a (inner i a h less inside)
        | inr outside ↦ Contains-append_left ins (take i nodes) a (crosses (get_or nodes i 0) a e s taken (omega (arith, less, node-low i h)) none (node-of i h) outside)
      ]

  -- the number of a node's module is that of its home's group
  pub number-home : (k : ℕ) → get_or numbers k None ≡ number_in order (group_of layers (home_at (homes_of layers es) k))
  number-home k = map-at (number_in order) (groups_of layers es) k None ∙ ap (number_in order) (map-at (group_of layers) (homes_of layers es) k Constant)

  -- the home of a node
  pub home-entry : (k : ℕ) (e : Entry) → slice_get es k ≡ Some e →
      home_at (homes_of layers es) k ≡ home_of_operation e.op (record { ring = is_ring (homes_of layers (take k es)) e; layer = layer_of layers (homes_of layers (take k es)) e; region = e.region })
  home-entry k e s =
      home_at-place layers es k e (slice_get_within es k e s) ∙ ap (home_of layers (homes_of layers (take k es))) (get_or_from_slice_get es k e e s)

  -- a node that lies in a module is no input and no constant
  pub inner-of : (k : ℕ) → k < length es → is_of numbers m k ≡ true → is_inner es k ≡ true
  inner-of k low here = by (slice_get es k) refl
    where
      outer : (e : Entry) → slice_get es k ≡ Some e → is_inner_op e.op ≡ false → ⊥
      outer e s out =
          let none : get_or numbers k None ≡ None =
          number-home k ∙ ap (λ (h : Home). number_in order (group_of layers h)) (home-entry k e s)
          ∙ ap (number_in order) (group-outer layers e.op (record { ring = is_ring (homes_of layers (take k es)) e; layer = layer_of layers (homes_of layers (take k es)) e; region = e.region }) out) in
          let some : get_or numbers k None ≡ Some m = is_just-some (get_or numbers k None) m here in
          cc

      by_op : (e : Entry) → slice_get es k ≡ Some e → (b : Bool) → is_inner_op e.op ≡ b → b ≡ true
      by_op e s true is = refl
      by_op e s false is = absurd (outer e s is)

      by : (o : Option Entry) → slice_get es k ≡ o → is_inner_entry o ≡ true
      by None s = absurd (none_within es k low s)
        where
          none_within : (xs : List Entry) (i : ℕ) → i < length xs → slice_get xs i ≡ None → ⊥
          none_within [] i h e = omega arith
          none_within (x ∷ xs) zero h e = cc
          none_within (x ∷ xs) (suc i) h e = none_within xs i (omega arith) e
      by (Some e) s = by_op e s (is_inner_op e.op) refl

  pub IsPiece-of-nodes : IsPiece es nodes ins outs
  IsPiece-of-nodes =
      record {
        known = λ i k e h s within none. known i k e h s within none;
        distinct = distinct-append ins nodes
            (subst IsDistinct (sym ins-are) (distinct-filter_below (λ k. is_variable es k && crosses_into es numbers m k) (length es)))
            (distinct-filter_below (is_of numbers m) (length numbers))
            (λ i j hi hj same. clash (is_of numbers m (get_or ins i 0)) (ap (is_of numbers m) same ∙ node-of j hj) (ins-outside i hi));
        stand = All-append (λ (k : ℕ). k < length es) ins nodes
            (subst (All (λ (k : ℕ). k < length es)) (sym ins-are) (filter_below-low (λ k. is_variable es k && crosses_into es numbers m k) (length es)))
            (subst (λ (n : ℕ). All (λ (k : ℕ). k < n) nodes) numbers-long (filter_below-low (is_of numbers m) (length numbers)));
        among = All-filter _ (Contains nodes) nodes (λ k d h. (k, h, get_or-same nodes k d h));
        few = omega (arith, length-append ins nodes, few-ins, few-nodes, graph.limit);
        inner = λ k d h. inner-node k d h;
      }
    where
      inner-node : (k d : ℕ) → k < length nodes → is_inner es (get_or nodes k d) ≡ true
      inner-node k d h = rw (get_or_default_zero nodes k d h) (inner-of (get_or nodes k 0) (node-low k h) (node-of k h))

      clash : (b : Bool) → b ≡ true → b ≡ false → ⊥
      clash true p q = cc
      clash false p q = cc

      get_or-same : (xs : List ℕ) (k d : ℕ) → k < length xs → get_or xs k (get_or xs k d) ≡ get_or xs k d
      get_or-same [] k d h = absurd (omega arith)
      get_or-same (x ∷ xs) zero d h = refl
      get_or-same (x ∷ xs) (suc k) d h = get_or-same xs k d (omega arith)

      few-below : (p : ℕ → Bool) (n : ℕ) → length (filter p (below n)) ≤ n
      few-below p n = omega (arith, length-filter p (below n), count_by-le-length p (below n), length-range_with_len 0 n)

      few-ins : length ins ≤ length es
      few-ins = omega (arith, ap length ins-are, few-below (λ k. is_variable es k && crosses_into es numbers m k) (length es))

      few-nodes : length nodes ≤ length es
      few-nodes = omega (arith, few-below (is_of numbers m) (length numbers), numbers-long)
