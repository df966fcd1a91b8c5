-- What is so of the prefixes of a search: each has one number, each list extends one that waits or
-- is there itself, and going down to the first child of the least bound ends at the first of all.
use Rattle.std.proofs.Common.{◌≡◌, ◌≢◌, ℕ, zero, suc, ◌+◌, ◌-◌, ◌<◌, ◌≤◌, not, List, [], ◌∷◌, ◌++◌, length, take, drop, get_or, IsSome, sym, ◌∙◌, ap, subst, refl, inl, inr, ◌⊎◌, arith, length-append, append_assoc, length-take-le}
use Rattle.std.specs.List.{AllPairs, Contains}
use Rattle.std.specs.Option.{is_some}
use Rattle.std.proofs.lemmas.Bool.{cases_lt, cases_eq}
use Rattle.std.proofs.lemmas.List.{append-nil, get_or_default, get_or-drop, get_or-take, get_or-map, length-map, length-drop, length_push, same_from_push, take_more, take_all, nil_from_length}
use Rattle.std.proofs.lemmas.List.Elements.{All-nil, All-cons}
use Rattle.std.proofs.lemmas.List.Filters.{length-filter_both}
use Rattle.std.proofs.lemmas.List.Kept.{AllPairs-cons, AllPairs-filter}
use Rattle.choice_core.specs.declared.sharings.Choice.{Choice}
use Rattle.choice_core.specs.declared.sharings.Choice.TheVariants.{A, Y, C, S}
use Rattle.choice_core.specs.declared.problems.Costs.{Costs}
use Rattle.choice_core.specs.Choices.{place}
use Rattle.choice_core.specs.Problems.{Row, own_of, Fits}
use Rattle.choice_core.specs.Bound.{bound_of}
use Rattle.choice_core.specs.Least.{IsLater}
use Rattle.choice_core.proofs.Sums.{Fits-right}
use Rattle.choice_core.proofs.Laws.{fits_head, is_some_true}
use Rattle.choice_search.specs.declared.arenas.Node.{Node}
use Rattle.choice_search.specs.Arenas.{node_at, prefix_at, IsChildOf, IsSplit, IsArena, StandFor, IsSearch, choices_at, Follows, IsFirst}
use Rattle.choice_search.proofs.Lists.{Contains-filter}
use Rattle.choice_search.proofs.Later.{later_more, later_behind}

among_all : (d : Choice) → Contains (A ∷ Y ∷ C ∷ S ∷ []) d
among_all A = (0, omega arith, refl)
among_all Y = (1, omega arith, refl)
among_all C = (2, omega arith, refl)
among_all S = (3, omega arith, refl)

abbrev Before : Choice → Choice → Type 0
Before c d = place c < place d

all_rise : AllPairs Before (A ∷ Y ∷ C ∷ S ∷ [])
all_rise =
    AllPairs-cons Before A (Y ∷ C ∷ S ∷ []) (All-cons (Before A) Y (C ∷ S ∷ []) (omega arith) (All-cons (Before A) C (S ∷ []) (omega arith) (All-cons (Before A) S [] (omega arith) (All-nil (Before A)))))
    (AllPairs-cons Before Y (C ∷ S ∷ []) (All-cons (Before Y) C (S ∷ []) (omega arith) (All-cons (Before Y) S [] (omega arith) (All-nil (Before Y))))
    (AllPairs-cons Before C (S ∷ []) (All-cons (Before C) S [] (omega arith) (All-nil (Before C))) (λ i j d before within. absurd (omega arith))))

pub choices_rise : (p : Costs) (q : List Choice) → AllPairs Before (choices_at p q)
unfolding choices_at
choices_rise p q = AllPairs-filter Before (λ c. is_some (own_of (get_or p.own (length q) []) c)) (A ∷ Y ∷ C ∷ S ∷ []) all_rise

pub choices_few : (p : Costs) (q : List Choice) → length (choices_at p q) ≤ 4
unfolding choices_at
choices_few p q =
    let both = length-filter_both (λ c. is_some (own_of (get_or p.own (length q) []) c)) (λ c. not (is_some (own_of (get_or p.own (length q) []) c))) (λ c. refl) (A ∷ Y ∷ C ∷ S ∷ []) in
    omega (arith, both)

-- an allowed choice has a place among them
pub choice_place : (p : Costs) (q : List Choice) (d : Choice) → IsSome (own_of (get_or p.own (length q) []) d) → (n : ℕ) × (n < length (choices_at p q)) × (get_or (choices_at p q) n A ≡ d)
unfolding choices_at
choice_place p q d allowed =
    let there = Contains-filter (λ c. is_some (own_of (get_or p.own (length q) []) c)) (A ∷ Y ∷ C ∷ S ∷ []) d (among_all d) (is_some_true (own_of (get_or p.own (length q) []) d) allowed) in
    (there.0, there.1, get_or_default (choices_at p q) there.0 A d there.1 ∙ there.2)

-- the choice behind a prefix is allowed
pub allowed_next : (rows : List Row) (q : List Choice) (d : Choice) (rest : List Choice) → Fits rows (q ++ d ∷ rest) → IsSome (own_of (get_or rows (length q) []) d)
allowed_next rows q d rest fits =
    let head = fits_head (drop (length q) rows) d rest (Fits-right rows q (d ∷ rest) fits) in
    subst (λ (r : Row). IsSome (own_of r d)) (get_or-drop (length q) rows 0 [] ∙ ap (λ (i : ℕ). get_or rows i []) (omega arith)) head.0

module _ (p : Costs) (prefixes : List (List Choice)) (nodes : List Node) (arena : IsArena nodes) (stand : StandFor p prefixes nodes) where
  pub children_long : (i : ℕ) → i < length nodes → 0 < (node_at nodes i).count → (node_at nodes i).count ≡ length (choices_at p (prefix_at prefixes i))
  unfolding choices_at
  children_long i inside some =
      let split = arena.split i inside some in
      let within = split.within in
      let size = stand.size in
      let long = length-take-le (node_at nodes i).count (drop (node_at nodes i).first prefixes) (omega (arith, length-drop (node_at nodes i).first prefixes, within, size)) in
      sym long ∙ ap length ((stand.split i inside some).children) ∙ length-map (choices_at p (prefix_at prefixes i)) (λ c. prefix_at prefixes i ++ c ∷ [])

  -- the n-th child has the n-th choice
  pub child_prefix : (i : ℕ) → i < length nodes → 0 < (node_at nodes i).count → (n : ℕ) → n < (node_at nodes i).count → prefix_at prefixes ((node_at nodes i).first + n) ≡ prefix_at prefixes i ++ get_or (choices_at p (prefix_at prefixes i)) n A ∷ []
  unfolding choices_at
  child_prefix i inside some n below =
      let long = children_long i inside some in
      sym (get_or-drop (node_at nodes i).first prefixes n [])
      ∙ sym (get_or-take (node_at nodes i).count (drop (node_at nodes i).first prefixes) n [] below)
      ∙ ap (λ (xs : List (List Choice)). get_or xs n []) ((stand.split i inside some).children)
      ∙ get_or-map (λ c. prefix_at prefixes i ++ c ∷ []) (choices_at p (prefix_at prefixes i)) n A [] (omega (arith, long, below))

  -- each child's prefix, with the place of its choice
  pub child_place : (i k : ℕ) → i < length nodes → 0 < (node_at nodes i).count → IsChildOf (node_at nodes i) k → prefix_at prefixes k ≡ prefix_at prefixes i ++ get_or (choices_at p (prefix_at prefixes i)) (k - (node_at nodes i).first) A ∷ []
  child_place i k inside some child =
      let low = child.0 in
      let high = child.1 in
      let at : (node_at nodes i).first + (k - (node_at nodes i).first) ≡ k = omega (arith, low) in
      subst (λ (j : ℕ). prefix_at prefixes j ≡ prefix_at prefixes i ++ get_or (choices_at p (prefix_at prefixes i)) (k - (node_at nodes i).first) A ∷ []) at (child_prefix i inside some (k - (node_at nodes i).first) (omega (arith, low, high)))

  -- a child's prefix ends with its choice
  pub child_longer : (i k : ℕ) → i < length nodes → 0 < (node_at nodes i).count → IsChildOf (node_at nodes i) k → prefix_at prefixes k ≡ prefix_at prefixes i ++ (node_at nodes k).choice ∷ []
  child_longer i k inside some child =
      let split = arena.split i inside some in
      let low = child.0 in
      let high = child.1 in
      let after = split.after in
      let within = split.within in
      stand.longer k (omega (arith, low, after)) (omega (arith, high, within)) ∙ ap (λ (a : ℕ). prefix_at prefixes a ++ (node_at nodes k).choice ∷ []) (split.parents k child)

  -- a node behind the root has a longer prefix than its parent, which was split
  pub parent_facts : (k : ℕ) → 0 < k → k < length nodes → ((node_at nodes k).parent < k) × (0 < (node_at nodes (node_at nodes k).parent).count) × IsChildOf (node_at nodes (node_at nodes k).parent) k
  parent_facts k behind inside =
      let made = arena.made k behind inside in
      let low = made.child.0 in
      let high = made.child.1 in
      (made.before, omega (arith, low, high), made.child)

  empty_is_root : (k : ℕ) → k < length nodes → prefix_at prefixes k ≡ [] → k ≡ 0
  empty_is_root k inside none = elim (cases_lt 0 k) [
    | inl behind ↦ (
        let more = ap length (sym none ∙ stand.longer k behind inside) in
        let size = length_push (prefix_at prefixes (node_at nodes k).parent) (node_at nodes k).choice in
        absurd (omega (arith, more, size)))
    | inr root ↦ omega (arith, root)
  ]

  same_child : (i a b : ℕ) → i < length nodes → 0 < (node_at nodes i).count → IsChildOf (node_at nodes i) a → IsChildOf (node_at nodes i) b → a < b → prefix_at prefixes a ≡ prefix_at prefixes b → ⊥
  same_child i a b inside some one two before same =
      let first = (node_at nodes i).first in
      let long = children_long i inside some in
      let low = one.0 in
      let low' = two.0 in
      let high = two.1 in
      let choices = same_from_push (prefix_at prefixes i) (prefix_at prefixes i) _ _ (sym (child_place i a inside some one) ∙ same ∙ child_place i b inside some two) in
      let rise = choices_rise p (prefix_at prefixes i) (a - first) (b - first) A (omega (arith, low, low', before)) (omega (arith, low', high, long)) in
      let places = ap place (choices.1) in
      omega (arith, rise, places)

  -- no two nodes have one prefix
  pub same_number : (n a b : ℕ) → a ≤ n → a < length nodes → b < length nodes → prefix_at prefixes a ≡ prefix_at prefixes b → a ≡ b
  same_number zero a b below one two same =
      let root : a ≡ 0 = omega (arith, below) in
      root ∙ sym (empty_is_root b two (sym same ∙ ap (prefix_at prefixes) root ∙ stand.root))
  same_number (suc n) a b below one two same = elim (cases_lt 0 a) [
    | inr root ↦ (
        let zeroth : a ≡ 0 = omega (arith, root) in
        zeroth ∙ sym (empty_is_root b two (sym same ∙ ap (prefix_at prefixes) zeroth ∙ stand.root)))
    | inl behind ↦ elim (cases_lt 0 b) [
      | inr root ↦ (
          let zeroth : b ≡ 0 = omega (arith, root) in
          empty_is_root a one (same ∙ ap (prefix_at prefixes) zeroth ∙ stand.root) ∙ sym zeroth)
      | inl later ↦ (
          let first = parent_facts a behind one in
          let second = parent_facts b later two in
          let parts = same_from_push _ _ _ _ (sym (stand.longer a behind one) ∙ same ∙ stand.longer b later two) in
          let parents = same_number n (node_at nodes a).parent (node_at nodes b).parent (omega (arith, first.0, below)) (omega (arith, first.0, one)) (omega (arith, second.0, two)) parts.0 in
          let child : IsChildOf (node_at nodes (node_at nodes a).parent) b = subst (λ (i : ℕ). IsChildOf (node_at nodes i) b) (sym parents) second.2 in
          siblings (node_at nodes a).parent (omega (arith, first.0, one)) first.1 first.2 child)
    ]
  ]
    where
      siblings : (i : ℕ) → i < length nodes → 0 < (node_at nodes i).count → IsChildOf (node_at nodes i) a → IsChildOf (node_at nodes i) b → a ≡ b
      siblings i inside some first second = elim (cases_lt a b) [
        | inl before ↦ absurd (same_child i a b inside some first second before same)
        | inr after ↦ elim (cases_eq a b) [
          | inl is ↦ is
          | inr apart ↦ absurd (same_child i b a inside some second first (omega (arith, after, apart)) (sym same))
        ]
      ]

  -- each list that fits is a prefix there, or extends one that waits
  pub reached : (rest : List Choice) (i : ℕ) → i < length nodes → Fits p.own (prefix_at prefixes i ++ rest) → (k : ℕ) × (k < length nodes) × ((prefix_at prefixes k ≡ prefix_at prefixes i ++ rest) ⊎ (((node_at nodes k).count ≡ 0) × (more : List Choice) × (prefix_at prefixes i ++ rest ≡ prefix_at prefixes k ++ more)))
  reached [] i inside fits = (i, inside, inl (sym (append-nil (prefix_at prefixes i))))
  reached (d ∷ rest) i inside fits = elim (cases_eq (node_at nodes i).count 0) [
    | inl waits ↦ (i, inside, inr (waits, d ∷ rest, refl))
    | inr split ↦ (
        let some : 0 < (node_at nodes i).count = omega (arith, split) in
        let long = children_long i inside some in
        let within = (arena.split i inside some).within in
        let place = choice_place p (prefix_at prefixes i) d (allowed_next p.own (prefix_at prefixes i) d rest fits) in
        let below : place.0 < (node_at nodes i).count = (let h = place.1 in omega (arith, h, long)) in
        let child : prefix_at prefixes ((node_at nodes i).first + place.0) ≡ prefix_at prefixes i ++ d ∷ [] = child_prefix i inside some place.0 below ∙ ap (λ (c : Choice). prefix_at prefixes i ++ c ∷ []) place.2 in
        let all : prefix_at prefixes i ++ d ∷ rest ≡ prefix_at prefixes ((node_at nodes i).first + place.0) ++ rest = sym (append_assoc (prefix_at prefixes i) (d ∷ []) rest) ∙ ap (λ (q : List Choice). q ++ rest) (sym child) in
        let found = reached rest ((node_at nodes i).first + place.0) (omega (arith, below, within)) (subst (λ (cs : List Choice). Fits p.own cs) all fits) in
        subst (λ (cs : List Choice). (k : ℕ) × (k < length nodes) × ((prefix_at prefixes k ≡ cs) ⊎ (((node_at nodes k).count ≡ 0) × (more : List Choice) × (cs ≡ prefix_at prefixes k ++ more)))) (sym all) found)
  ]

-- the second prefix has a greater bound than b, or at least that bound and a later choice
abbrev pub FollowsAt : Costs → ℕ → List Choice → List Choice → Type 0
FollowsAt p b first second = (b < bound_of p second) ⊎ ((b ≤ bound_of p second) × IsLater second first)

-- below the node a prefix of the least bound b waits, and each that waits elsewhere follows it
pub record IsDown (p : Costs) (prefixes : List (List Choice)) (nodes : List Node) (leasts : List ℕ) (b i : ℕ) : Type 0 where
  pub within : i < length nodes
  pub least : get_or leasts i 0 ≡ b
  pub others : (k : ℕ) → k < length nodes → (node_at nodes k).count ≡ 0 → ((rest : List Choice) × (prefix_at prefixes k ≡ prefix_at prefixes i ++ rest)) ⊎ FollowsAt p b (prefix_at prefixes i) (prefix_at prefixes k)

module _ (p : Costs) (prefixes : List (List Choice)) (nodes : List Node) (leasts : List ℕ) (search : IsSearch p prefixes nodes leasts) where
  -- going up from a node to the part of its prefix of a given length: the least bounds never rise
  pub upward : (n r : ℕ) (q rest : List Choice) → length rest ≡ n → r < length nodes → prefix_at prefixes r ≡ q ++ rest → (a : ℕ) × (a < length nodes) × (prefix_at prefixes a ≡ q) × (get_or leasts a 0 ≤ get_or leasts r 0) × ((a ≡ r) ⊎ (0 < (node_at nodes a).count))
  upward zero r q rest long inside is = (r, inside, is ∙ ap (λ (cs : List Choice). q ++ cs) (nil_from_length rest long) ∙ append-nil q, omega arith, inl refl)
  upward (suc n) r q rest long inside is =
      let stand = search.stand in
      let size = length-append q rest in
      let whole = ap length is in
      let behind : 0 < r = elim (cases_lt 0 r) [
        | inl behind ↦ behind
        | inr root ↦ (
            let zeroth : r ≡ 0 = omega (arith, root) in
            let none = ap length (sym is ∙ ap (prefix_at prefixes) zeroth ∙ stand.root) in
            absurd (omega (arith, none, size, long)))
      ] in
      let facts = parent_facts p prefixes nodes search.arena stand r behind inside in
      let parent = (node_at nodes r).parent in
      let last : rest ≡ take n rest ++ get_or rest n A ∷ [] = sym (take_all (n + 1) rest (omega (arith, long))) ∙ take_more rest n A (omega (arith, long)) in
      let split : q ++ rest ≡ (q ++ take n rest) ++ get_or rest n A ∷ [] = ap (λ (cs : List Choice). q ++ cs) last ∙ sym (append_assoc q (take n rest) (get_or rest n A ∷ [])) in
      let parts = same_from_push (prefix_at prefixes parent) (q ++ take n rest) (node_at nodes r).choice (get_or rest n A) (sym (stand.longer r behind inside) ∙ is ∙ split) in
      let up = upward n parent q (take n rest) (length-take-le n rest (omega (arith, long))) (omega (arith, facts.0, inside)) parts.0 in
      let below = (search.least parent (omega (arith, facts.0, inside)) facts.1).below r facts.2 in
      let lower = up.3 in (
        up.0,
        up.1,
        up.2,
        omega (arith, lower, below),
        inr (elim up.4 [
          | inl same ↦ subst (λ (k : ℕ). 0 < (node_at nodes k).count) (sym same) facts.1
          | inr some ↦ some
        ]),
      )

  -- below a node the least bounds are no lesser, and a node that waits has nothing below it
  pub below_node : (i r : ℕ) (rest : List Choice) → i < length nodes → r < length nodes → prefix_at prefixes r ≡ prefix_at prefixes i ++ rest → (get_or leasts i 0 ≤ get_or leasts r 0) × ((i ≡ r) ⊎ (0 < (node_at nodes i).count))
  below_node i r rest one two is =
      let up = upward (length rest) r (prefix_at prefixes i) rest refl two is in
      let same = same_number p prefixes nodes search.arena search.stand up.0 up.0 i (omega arith) up.1 one up.2 in
      let lower = up.3 in
      (subst (λ (k : ℕ). get_or leasts k 0 ≤ get_or leasts r 0) same lower, subst (λ (k : ℕ). (k ≡ r) ⊎ (0 < (node_at nodes k).count)) same up.4)

  pub down_root : IsDown p prefixes nodes leasts (get_or leasts 0 0) 0
  down_root = record {
    within = search.arena.some;
    least = refl;
    others = λ k inside waits. inl (prefix_at prefixes k, ap (λ (q : List Choice). q ++ prefix_at prefixes k) (sym search.stand.root));
  }

  pub down_more : (b i k : ℕ) → IsDown p prefixes nodes leasts b i → 0 < (node_at nodes i).count → IsChildOf (node_at nodes i) k → get_or leasts k 0 ≡ b → ((j : ℕ) → (node_at nodes i).first ≤ j → j < k → get_or leasts j 0 ≢ b) → IsDown p prefixes nodes leasts b k
  down_more b i k down some child least none = record {
    within = (let high = child.1 in omega (arith, high, split.within));
    least = least;
    others = λ r inside waits. by_other r inside waits (down.others r inside waits);
  }
    where
      split : IsSplit nodes i
      split = search.arena.split i down.within some

      n : ℕ
      n = k - (node_at nodes i).first

      here : prefix_at prefixes k ≡ prefix_at prefixes i ++ get_or (choices_at p (prefix_at prefixes i)) n A ∷ []
      here = child_place p prefixes nodes search.arena search.stand i k down.within some child

      further : (r : ℕ) → FollowsAt p b (prefix_at prefixes i) (prefix_at prefixes r) → FollowsAt p b (prefix_at prefixes k) (prefix_at prefixes r)
      further r (inl more) = inl more
      further r (inr (least, later)) = inr (least, subst (λ (q : List Choice). IsLater (prefix_at prefixes r) q) (sym here) (later_more (prefix_at prefixes r) (prefix_at prefixes i) (get_or (choices_at p (prefix_at prefixes i)) n A ∷ []) later))

      by_place : (r : ℕ) → r < length nodes → (node_at nodes r).count ≡ 0 → (d : Choice) (rest : List Choice) → prefix_at prefixes r ≡ prefix_at prefixes i ++ d ∷ rest → (m : ℕ) → m < (node_at nodes i).count → get_or (choices_at p (prefix_at prefixes i)) m A ≡ d → ((rest : List Choice) × (prefix_at prefixes r ≡ prefix_at prefixes k ++ rest)) ⊎ FollowsAt p b (prefix_at prefixes k) (prefix_at prefixes r)
      by_place r inside waits d rest is m below choice =
          let j = (node_at nodes i).first + m in
          let low = child.0 in
          let within = split.within in
          let child_is : prefix_at prefixes j ≡ prefix_at prefixes i ++ d ∷ [] = child_prefix p prefixes nodes search.arena search.stand i down.within some m below ∙ ap (λ (c : Choice). prefix_at prefixes i ++ c ∷ []) choice in
          let all : prefix_at prefixes r ≡ prefix_at prefixes j ++ rest = is ∙ sym (append_assoc (prefix_at prefixes i) (d ∷ []) rest) ∙ ap (λ (q : List Choice). q ++ rest) (sym child_is) in
          let under = (below_node j r rest (omega (arith, below, within)) inside all).0 in
          let bound = search.bounds r inside waits in
          let floor = (search.least i down.within some).below j (omega (arith, below), omega (arith, below)) in
          let is_least = down.least in
          elim (cases_lt j k) [
            | inl before ↦ (let other = none j (omega arith) before in inr (inl (omega (arith, under, bound, floor, is_least, other))))
            | inr after ↦ elim (cases_eq j k) [
              | inl same ↦ inl (rest, all ∙ ap (λ (a : ℕ). prefix_at prefixes a ++ rest) same)
              | inr apart ↦ (
                  let long = children_long p prefixes nodes search.arena search.stand i down.within some in
                  let rise : place (get_or (choices_at p (prefix_at prefixes i)) n A) < place (get_or (choices_at p (prefix_at prefixes i)) m A) = choices_rise p (prefix_at prefixes i) n m A (omega (arith, low, after, apart)) (omega (arith, below, long)) in
                  let places = ap place choice in
                  let later = later_behind (prefix_at prefixes i) d (get_or (choices_at p (prefix_at prefixes i)) n A) rest [] (omega (arith, rise, places)) in
                  inr (inr (omega (arith, under, bound, floor, is_least), rw (is, here) later)))
            ]
          ]

      by_other : (r : ℕ) → r < length nodes → (node_at nodes r).count ≡ 0 → ((rest : List Choice) × (prefix_at prefixes r ≡ prefix_at prefixes i ++ rest)) ⊎ FollowsAt p b (prefix_at prefixes i) (prefix_at prefixes r) → ((rest : List Choice) × (prefix_at prefixes r ≡ prefix_at prefixes k ++ rest)) ⊎ FollowsAt p b (prefix_at prefixes k) (prefix_at prefixes r)
      by_other r inside waits (inr follows) = inr (further r follows)
      by_other r inside waits (inl ([], is)) =
          let same = same_number p prefixes nodes search.arena search.stand r r i (omega arith) inside down.within (is ∙ append-nil (prefix_at prefixes i)) in
          let none = subst (λ (a : ℕ). (node_at nodes a).count ≡ 0) same waits in
          absurd (omega (arith, none, some))
      by_other r inside waits (inl (d ∷ rest, is)) =
          let fits = subst (λ (cs : List Choice). Fits p.own cs) is (search.stand.fits r inside) in
          let there = choice_place p (prefix_at prefixes i) d (allowed_next p.own (prefix_at prefixes i) d rest fits) in
          let long = children_long p prefixes nodes search.arena search.stand i down.within some in
          let below = there.1 in
          by_place r inside waits d rest is there.0 (omega (arith, below, long)) there.2

  -- where nothing is below the node, it is the first that waits
  pub down_end : (i : ℕ) → IsDown p prefixes nodes leasts (get_or leasts 0 0) i → (node_at nodes i).count ≡ 0 → IsFirst p prefixes nodes i
  down_end i down waits = record {
    within = down.within;
    waits = waits;
    others = λ k inside none. by_other k inside none (down.others k inside none);
  }
    where
      bound : get_or leasts 0 0 ≡ bound_of p (prefix_at prefixes i)
      bound = sym down.least ∙ search.bounds i down.within waits

      by_other : (k : ℕ) → k < length nodes → (node_at nodes k).count ≡ 0 → ((rest : List Choice) × (prefix_at prefixes k ≡ prefix_at prefixes i ++ rest)) ⊎ FollowsAt p (get_or leasts 0 0) (prefix_at prefixes i) (prefix_at prefixes k) → (k ≡ i) ⊎ Follows p (prefix_at prefixes i) (prefix_at prefixes k)
      by_other k inside none (inl (rest, is)) = elim (below_node i k rest down.within inside is).1 [
        | inl same ↦ inl (sym same)
        | inr some ↦ absurd (omega (arith, some, waits))
      ]
      by_other k inside none (inr (inl more)) = inr (inl (omega (arith, more, bound)))
      by_other k inside none (inr (inr (least, later))) = inr (inr (omega (arith, least, bound), later))

  -- a complete prefix waits
  pub whole_waits : (i : ℕ) → i < length nodes → length p.own ≤ length (prefix_at prefixes i) → (node_at nodes i).count ≡ 0
  whole_waits i inside whole = elim (cases_eq (node_at nodes i).count 0) [
    | inl none ↦ none
    | inr some ↦ (let short = (search.stand.split i inside (omega (arith, some))).short in absurd (omega (arith, short, whole)))
  ]
