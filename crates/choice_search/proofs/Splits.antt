-- A search with one prefix split.
use Rattle.std.proofs.Common.{◌≡◌, ◌≢◌, ℕ, ◌+◌, ◌-◌, ◌<◌, ◌≤◌, true, List, [], ◌∷◌, ◌++◌, length, drop, map, get_or, Option, Some, None, IsSome, sym, ◌∙◌, ap, subst, refl, inl, inr, arith, length-append, length-set, length-drop, get_or-set_same, get_or-set_other, get_or-append-add}
use Rattle.std.specs.Option.{is_some}
use Rattle.std.proofs.lemmas.Bool.{cases_lt, cases_eq}
use Rattle.std.proofs.lemmas.List.{length-map, get_or_append_left, get_or-map, take_all, drop_at, drop-append-le, take-append-le}
use Rattle.std.proofs.lemmas.List.Elements.{filter_passes}
use Rattle.choice_core.specs.declared.sharings.Choice.{Choice}
use Rattle.choice_core.specs.declared.sharings.Choice.TheVariants.{A, Y, C, S}
use Rattle.choice_core.specs.declared.problems.Costs.{Costs}
use Rattle.choice_core.specs.Problems.{own_of, Fits, IsProblem}
use Rattle.choice_core.specs.Bound.{bound_of}
use Rattle.choice_core.specs.Least.{children}
use Rattle.choice_search.specs.declared.arenas.Node.{Node}
use Rattle.choice_search.specs.Arenas.{node_at, prefix_at, IsChildOf, IsSplit, IsMade, IsArena, HasChildren, StandFor, IsLeastBelow, HasBounds, IsSearch, choices_at, with_children, split_at, with_bounds}
use Rattle.choice_search.proofs.Prefixes.{choice_place}
use Rattle.choice_search.proofs.Longer.{fits_longer}

some_passes : {X : Type 0} (o : Option X) → is_some o ≡ true → IsSome o
some_passes None is = absurd (cc)
some_passes (Some x) is = refl

-- each of these choices is allowed
pub choice_allowed : (p : Costs) (q : List Choice) (n : ℕ) → n < length (choices_at p q) → IsSome (own_of (get_or p.own (length q) []) (get_or (choices_at p q) n A))
unfolding choices_at
choice_allowed p q n within = some_passes (own_of (get_or p.own (length q) []) (get_or (choices_at p q) n A)) (filter_passes (λ c. is_some (own_of (get_or p.own (length q) []) c)) (A ∷ Y ∷ C ∷ S ∷ []) n A within)

pub children_are : (p : Costs) (q : List Choice) → children p q ≡ map (λ c. q ++ c ∷ []) (choices_at p q)
unfolding choices_at
children_are p q = refl

pub some_choice : (p : Costs) → IsProblem p → (q : List Choice) → length q < length p.own → 0 < length (choices_at p q)
some_choice p problem q short =
    let first = problem.choices (length q) [] short in
    let there = choice_place p q first.0 first.1 in
    let within = there.1 in
    omega (arith, within)

abbrev child_of : ℕ → Choice → Node
child_of i c = record { parent = i; choice = c; first = 0; count = 0 }

module _ (p : Costs) (problem : IsProblem p) (prefixes : List (List Choice)) (nodes : List Node) (leasts : List ℕ) (search : IsSearch p prefixes nodes leasts) (i : ℕ) (inside : i < length nodes) (waits : (node_at nodes i).count ≡ 0) (short : length (prefix_at prefixes i) < length p.own) where
  abbrev q : List Choice
  q = prefix_at prefixes i

  abbrev cs : List Choice
  cs = choices_at p q

  abbrev nodes' : List Node
  nodes' = split_at nodes i cs

  abbrev prefixes' : List (List Choice)
  prefixes' = prefixes ++ children p q

  abbrev leasts' : List ℕ
  leasts' = with_bounds p leasts q cs

  some : 0 < length cs
  some = some_choice p problem q short

  size : length nodes' ≡ length nodes + length cs
  size = length-set (with_children nodes i cs) i _ ∙ length-append nodes (map (child_of i) cs) ∙ ap (λ (n : ℕ). length nodes + n) (length-map cs (child_of i))

  node_here : node_at nodes' i ≡ record (node_at nodes i) { first = length nodes; count = length cs }
  node_here = get_or-set_same (with_children nodes i cs) i _ _ (let long = length-append nodes (map (child_of i) cs) in omega (arith, long, inside))

  pub node_old : (k : ℕ) → k < length nodes → k ≢ i → node_at nodes' k ≡ node_at nodes k
  node_old k within apart = get_or-set_other (with_children nodes i cs) i k _ _ apart ∙ get_or_append_left nodes (map (child_of i) cs) _ k within

  pub node_new : (n : ℕ) → n < length cs → node_at nodes' (length nodes + n) ≡ child_of i (get_or cs n A)
  node_new n within =
      get_or-set_other (with_children nodes i cs) i (length nodes + n) _ _ (λ is. omega (arith, is, inside))
      ∙ get_or-append-add nodes (map (child_of i) cs) n _
      ∙ get_or-map (child_of i) cs n A _ within

  pub prefix_old : (k : ℕ) → k < length nodes → prefix_at prefixes' k ≡ prefix_at prefixes k
  prefix_old k within = get_or_append_left prefixes (children p q) [] k (let same = search.stand.size in omega (arith, same, within))

  prefix_new : (n : ℕ) → n < length cs → prefix_at prefixes' (length nodes + n) ≡ q ++ get_or cs n A ∷ []
  prefix_new n within =
      ap (λ (m : ℕ). prefix_at prefixes' (m + n)) (sym search.stand.size)
      ∙ get_or-append-add prefixes (children p q) n []
      ∙ ap (λ (xs : List (List Choice)). get_or xs n []) (children_are p q)
      ∙ get_or-map (λ c. q ++ c ∷ []) cs n A [] within

  least_old : (k : ℕ) → k < length nodes → get_or leasts' k 0 ≡ get_or leasts k 0
  least_old k within = get_or_append_left leasts (map (λ c. bound_of p (q ++ c ∷ [])) cs) 0 k (let same = search.size in omega (arith, same, within))

  least_new : (n : ℕ) → n < length cs → get_or leasts' (length nodes + n) 0 ≡ bound_of p (q ++ get_or cs n A ∷ [])
  least_new n within =
      ap (λ (m : ℕ). get_or leasts' (m + n) 0) (sym search.size)
      ∙ get_or-append-add leasts (map (λ c. bound_of p (q ++ c ∷ [])) cs) n 0
      ∙ get_or-map (λ c. bound_of p (q ++ c ∷ [])) cs n A 0 within

  -- a node is the one that was split, an old one or a new one
  pub by_place : (P : ℕ → Type 0) → P i → ((k : ℕ) → k < length nodes → k ≢ i → P k) → ((n : ℕ) → n < length cs → P (length nodes + n)) → (k : ℕ) → k < length nodes' → P k
  by_place P here old new k within = elim (cases_lt k (length nodes)) [
    | inl before ↦ elim (cases_eq k i) [
      | inl same ↦ subst P (sym same) here
      | inr apart ↦ old k before apart
    ]
    | inr after ↦ subst P {x = length nodes + (k - length nodes)} {y = k} (omega (arith, after)) (new (k - length nodes) (omega (arith, within, size, after)))
  ]

  parent_old : (k : ℕ) → k < length nodes → (node_at nodes' k).parent ≡ (node_at nodes k).parent
  parent_old k within = elim (cases_eq k i) [
    | inl same ↦ subst (λ (j : ℕ). (node_at nodes' j).parent ≡ (node_at nodes j).parent) (sym same) (ap (λ (node : Node). node.parent) node_here)
    | inr apart ↦ ap (λ (node : Node). node.parent) (node_old k within apart)
  ]

  choice_old : (k : ℕ) → k < length nodes → (node_at nodes' k).choice ≡ (node_at nodes k).choice
  choice_old k within = elim (cases_eq k i) [
    | inl same ↦ subst (λ (j : ℕ). (node_at nodes' j).choice ≡ (node_at nodes j).choice) (sym same) (ap (λ (node : Node). node.choice) node_here)
    | inr apart ↦ ap (λ (node : Node). node.choice) (node_old k within apart)
  ]

  made_old : (k : ℕ) → 0 < k → k < length nodes → IsMade nodes' k
  made_old k behind within =
      let made = search.arena.made k behind within in
      let before = made.before in
      let low = made.child.0 in
      let high = made.child.1 in
      let parent = parent_old k within in
      let other : (node_at nodes k).parent ≢ i = λ same. (let none = ap (λ (j : ℕ). (node_at nodes j).count) same in omega (arith, low, high, none, waits)) in
      let node = node_old (node_at nodes k).parent (omega (arith, before, within)) other in
      record {
        before = omega (arith, parent, before);
        child = subst (λ (j : ℕ). IsChildOf (node_at nodes' j) k) (sym parent) (subst (λ (n : Node). IsChildOf n k) (sym node) made.child);
      }

  child_here : (n : ℕ) → n < length cs → IsChildOf (node_at nodes' i) (length nodes + n)
  child_here n within = subst (λ (node : Node). IsChildOf node (length nodes + n)) (sym node_here) (omega arith, omega (arith, within))

  made_new : (n : ℕ) → n < length cs → IsMade nodes' (length nodes + n)
  made_new n within =
      let parent = ap (λ (node : Node). node.parent) (node_new n within) in
      record {
        before = omega (arith, parent, inside);
        child = subst (λ (j : ℕ). IsChildOf (node_at nodes' j) (length nodes + n)) (sym parent) (child_here n within);
      }

  split_here : IsSplit nodes' i
  split_here =
      let first = ap (λ (node : Node). node.first) node_here in
      let count = ap (λ (node : Node). node.count) node_here in
      record {
        after = omega (arith, first, inside);
        within = omega (arith, first, count, size);
        parents = λ k child. by_child k (omega (arith, child.0, first)) (omega (arith, child.1, first, count));
      }
    where
      by_child : (k : ℕ) → length nodes ≤ k → k < length nodes + length cs → (node_at nodes' k).parent ≡ i
      by_child k low high =
          let at : length nodes + (k - length nodes) ≡ k = omega (arith, low) in
          subst (λ (j : ℕ). (node_at nodes' j).parent ≡ i) at (ap (λ (node : Node). node.parent) (node_new (k - length nodes) (omega (arith, low, high))))

  split_old : (k : ℕ) → k < length nodes → k ≢ i → 0 < (node_at nodes' k).count → IsSplit nodes' k
  split_old k inside apart many =
      let node = node_old k inside apart in
      let first = ap (λ (n : Node). n.first) node in
      let count = ap (λ (n : Node). n.count) node in
      let split = search.arena.split k inside (omega (arith, many, count)) in
      let after = split.after in
      let within = split.within in
      record {
        after = omega (arith, after, first);
        within = omega (arith, within, first, count, size);
        parents = λ j child. (let old : IsChildOf (node_at nodes k) j = subst (λ (n : Node). IsChildOf n j) node child in let high = old.1 in parent_old j (omega (arith, high, within)) ∙ split.parents j old);
      }

  pub arena_split : IsArena nodes'
  arena_split = record {
    some = omega (arith, size, inside);
    made = λ k behind within. by_place (λ j. 0 < j → IsMade nodes' j) (λ more. made_old i more inside) (λ j below apart more. made_old j more below) (λ n below more. made_new n below) k within behind;
    split = λ k within many. by_place (λ j. 0 < (node_at nodes' j).count → IsSplit nodes' j) (λ more. split_here) split_old (λ n below more. absurd (let none = ap (λ (node : Node). node.count) (node_new n below) in omega (arith, none, more))) k within many;
  }

  fits_old : (k : ℕ) → k < length nodes → Fits p.own (prefix_at prefixes' k)
  fits_old k within = subst (λ (ds : List Choice). Fits p.own ds) (sym (prefix_old k within)) (search.stand.fits k within)

  fits_new : (n : ℕ) → n < length cs → Fits p.own (prefix_at prefixes' (length nodes + n))
  fits_new n within = subst (λ (ds : List Choice). Fits p.own ds) (sym (prefix_new n within)) (fits_longer p.own q (get_or cs n A) (search.stand.fits i inside) short (choice_allowed p q n within))

  longer_old : (k : ℕ) → 0 < k → k < length nodes → prefix_at prefixes' k ≡ prefix_at prefixes' (node_at nodes' k).parent ++ (node_at nodes' k).choice ∷ []
  longer_old k behind within =
      let before = (search.arena.made k behind within).before in
      rw (prefix_old k within, parent_old k within, choice_old k within, prefix_old (node_at nodes k).parent (omega (arith, before, within))) (search.stand.longer k behind within)

  longer_new : (n : ℕ) → n < length cs → prefix_at prefixes' (length nodes + n) ≡ prefix_at prefixes' (node_at nodes' (length nodes + n)).parent ++ (node_at nodes' (length nodes + n)).choice ∷ []
  longer_new n within = rw (prefix_new n within, node_new n within, prefix_old i inside) refl

  long_children : length (children p q) ≡ length cs
  long_children = ap length (children_are p q) ∙ length-map cs (λ c. q ++ c ∷ [])

  children_here : HasChildren p prefixes' nodes' i
  children_here =
      let first = ap (λ (node : Node). node.first) node_here in
      let count = ap (λ (node : Node). node.count) node_here in
      let old = prefix_old i inside in
      let long = ap length old in
      record {
        short = omega (arith, long, short);
        children = rw (first, count, old, drop_at prefixes (children p q) (length nodes) search.stand.size) (take_all (length cs) (children p q) (omega (arith, long_children)));
      }

  children_old : (k : ℕ) → k < length nodes → k ≢ i → 0 < (node_at nodes' k).count → HasChildren p prefixes' nodes' k
  children_old k inside apart many =
      let node = node_old k inside apart in
      let first = ap (λ (n : Node). n.first) node in
      let count = ap (λ (n : Node). n.count) node in
      let old = prefix_old k inside in
      let long = ap length old in
      let within = (search.arena.split k inside (omega (arith, many, count))).within in
      let has = search.stand.split k inside (omega (arith, many, count)) in
      let same = search.stand.size in
      let less = has.short in
      record {
        short = omega (arith, long, less);
        children = rw (first, count, old, drop-append-le (node_at nodes k).first prefixes (children p q) (omega (arith, within, same)), take-append-le (node_at nodes k).count (drop (node_at nodes k).first prefixes) (children p q) (omega (arith, length-drop (node_at nodes k).first prefixes, within, same))) has.children;
      }

  pub stand_split : StandFor p prefixes' nodes'
  stand_split = record {
    size = length-append prefixes (children p q) ∙ (let same = search.stand.size in omega (arith, same, long_children, size));
    root = prefix_old 0 (omega (arith, inside)) ∙ search.stand.root;
    fits = λ k within. by_place (λ j. Fits p.own (prefix_at prefixes' j)) (fits_old i inside) (λ j below apart. fits_old j below) fits_new k within;
    longer = λ k behind within. by_place (λ j. 0 < j → prefix_at prefixes' j ≡ prefix_at prefixes' (node_at nodes' j).parent ++ (node_at nodes' j).choice ∷ []) (λ more. longer_old i more inside) (λ j below apart more. longer_old j more below) (λ n below more. longer_new n below) k within behind;
    split = λ k within many. by_place (λ j. 0 < (node_at nodes' j).count → HasChildren p prefixes' nodes' j) (λ more. children_here) children_old (λ n below more. absurd (let none = ap (λ (node : Node). node.count) (node_new n below) in omega (arith, none, more))) k within many;
  }

  pub bounds_split : HasBounds p prefixes' nodes' leasts'
  bounds_split k within none = by_place (λ j. (node_at nodes' j).count ≡ 0 → get_or leasts' j 0 ≡ bound_of p (prefix_at prefixes' j))
      (λ no. absurd (let count = ap (λ (node : Node). node.count) node_here in omega (arith, no, count, some)))
      (λ j below apart no. least_old j below ∙ search.bounds j below (sym (ap (λ (n : Node). n.count) (node_old j below apart)) ∙ no) ∙ ap (bound_of p) (sym (prefix_old j below)))
      (λ n below no. least_new n below ∙ ap (bound_of p) (sym (prefix_new n below)))
      k within none

  least_kept : (k : ℕ) → k < length nodes → k ≢ i → 0 < (node_at nodes' k).count → IsLeastBelow (node_at nodes' k) leasts' (get_or leasts' k 0)
  least_kept k inside apart many =
      let node = node_old k inside apart in
      let count = ap (λ (n : Node). n.count) node in
      let more : 0 < (node_at nodes k).count = omega (arith, many, count) in
      let within = (search.arena.split k inside more).within in
      let old = search.least k inside more in
      let same = λ (j : ℕ) (child : IsChildOf (node_at nodes k) j). (let high = child.1 in least_old j (omega (arith, high, within))) in
      rw (node, least_old k inside) (record {
        below = λ j child. subst (λ (n : ℕ). get_or leasts k 0 ≤ n) (sym (same j child)) (old.below j child);
        found = (old.found.0, old.found.1, same old.found.0 old.found.1 ∙ old.found.2);
      })

  -- the least bounds are right but for the one that was split
  pub leasts_split : (k : ℕ) → k < length nodes' → 0 < (node_at nodes' k).count → k ≢ i → IsLeastBelow (node_at nodes' k) leasts' (get_or leasts' k 0)
  leasts_split k within many apart = by_place (λ j. j ≢ i → 0 < (node_at nodes' j).count → IsLeastBelow (node_at nodes' j) leasts' (get_or leasts' j 0))
      (λ other more. absurd (other refl))
      (λ j below other _ more. least_kept j below other more)
      (λ n below other more. absurd (let none = ap (λ (node : Node). node.count) (node_new n below) in omega (arith, none, more)))
      k within apart many

  pub now_split : 0 < (node_at nodes' i).count
  now_split = let count = ap (λ (node : Node). node.count) node_here in omega (arith, count, some)

  pub size_split : (length nodes' ≡ length nodes + length cs) × (length leasts' ≡ length nodes')
  size_split = (size, length-append leasts (map (λ c. bound_of p (q ++ c ∷ [])) cs) ∙ (let long = length-map cs (λ c. bound_of p (q ++ c ∷ [])) in let same = search.size in omega (arith, long, same, size)))
