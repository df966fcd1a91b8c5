-- What was split doesn't close, and what waits when a complete prefix is found does.
use Rattle.std.proofs.Common.{◌≡◌, ◌≢◌, ℕ, suc, ◌+◌, ◌^◌, ◌<◌, ◌≤◌, List, [], ◌∷◌, ◌++◌, length, take, get_or, sym, ◌∙◌, ap, subst, inl, inr, ◌⊎◌, arith, length-append}
use Rattle.std.specs.List.{All, Contains}
use Rattle.std.proofs.lemmas.Bool.{cases_lt, cases_eq}
use Rattle.std.proofs.lemmas.List.{append-nil}
use Rattle.std.proofs.lemmas.List.Elements.{All-nil, All-cons, All-weaker, All-contains}
use Rattle.std.proofs.lemmas.List.Kept.{AllPairs-cons}
use Rattle.choice_core.specs.declared.sharings.Choice.{Choice}
use Rattle.choice_core.specs.declared.problems.Costs.{Costs}
use Rattle.choice_core.specs.Problems.{cost_of, Fits, IsAssignment, IsProblem}
use Rattle.choice_core.specs.Bound.{bound_of}
use Rattle.choice_core.specs.Least.{IsLater, IsLeast, ClosesAt, children}
use Rattle.choice_core.proofs.Laws.{bound_rises, bound_below, bound_of_whole, later_on, not_both_later, closes_below, Before}
use Rattle.choice_search.specs.declared.arenas.Node.{Node}
use Rattle.choice_search.specs.Answers.{IsOpen, HasFewOpen, HasManyOpen}
use Rattle.choice_search.specs.Arenas.{node_at, prefix_at, IsArena, IsLeastBelow, HasLeasts, IsSearch, choices_at, split_at, with_bounds, Follows, IsFirst, IsShown}
use Rattle.choice_search.specs.Searched.{HasBranch, IsSearched, IsAt}
use Rattle.choice_search.proofs.Lists.{differ_within}
use Rattle.choice_search.proofs.Exists.{some_least}
use Rattle.choice_search.proofs.Later.{not_later_shorter}
use Rattle.choice_search.proofs.Prefixes.{choices_few, same_number, reached, whole_waits}
use Rattle.choice_search.proofs.Splits.{node_old, node_new, prefix_old, by_place, arena_split, stand_split, bounds_split, leasts_split, now_split, size_split}

-- a longer prefix that isn't complete still closes
closes_longer : (p : Costs) → IsProblem p → (cs prefix more : List Choice) → length cs ≡ length p.own → Fits p.own (prefix ++ more) → length (prefix ++ more) < length p.own → ClosesAt p cs prefix → ClosesAt p cs (prefix ++ more)
closes_longer p problem cs prefix more whole fits short (inl dear) = let rises = bound_rises p problem prefix more fits in inl (omega (arith, dear, rises))
closes_longer p problem cs prefix more whole fits short (inr (inl (same, later))) =
    let rises = bound_rises p problem prefix more fits in
    elim (cases_lt (cost_of p cs) (bound_of p (prefix ++ more))) [
      | inl dear ↦ inl dear
      | inr least ↦ inr (inl (omega (arith, rises, same, least), later_on prefix cs more later))
    ]
closes_longer p problem cs prefix more whole fits short (inr (inr same)) = absurd (let size = ap length same in let long = length-append prefix more in omega (arith, size, long, whole, short))

module _ (p : Costs) (problem : IsProblem p) (prefixes : List (List Choice)) (nodes : List Node) (leasts : List ℕ) (search : IsSearch p prefixes nodes leasts) where
  -- each complete list extends a prefix that waits
  pub waiting_below : (cs : List Choice) → IsAssignment p cs → (k : ℕ) × (k < length nodes) × ((node_at nodes k).count ≡ 0) × (more : List Choice) × (cs ≡ prefix_at prefixes k ++ more)
  waiting_below cs assigned =
      let from : cs ≡ prefix_at prefixes 0 ++ cs = ap (λ (q : List Choice). q ++ cs) (sym search.stand.root) in
      by_end (reached p prefixes nodes search.arena search.stand cs 0 search.arena.some (subst (λ (ds : List Choice). Fits p.own ds) from assigned.fits)) from
    where
      by_end : (k : ℕ) × (k < length nodes) × ((prefix_at prefixes k ≡ prefix_at prefixes 0 ++ cs) ⊎ (((node_at nodes k).count ≡ 0) × (more : List Choice) × (prefix_at prefixes 0 ++ cs ≡ prefix_at prefixes k ++ more))) → cs ≡ prefix_at prefixes 0 ++ cs → (k : ℕ) × (k < length nodes) × ((node_at nodes k).count ≡ 0) × (more : List Choice) × (cs ≡ prefix_at prefixes k ++ more)
      by_end (k, within, inl is) from = (k, within, whole_waits p prefixes nodes leasts search k within (let size = ap length (is ∙ sym from) in let whole = assigned.whole in omega (arith, size, whole)), [], from ∙ sym is ∙ sym (append-nil (prefix_at prefixes k)))
      by_end (k, within, inr (waits, more, is)) from = (k, within, waits, more, from ∙ is)

  -- the first that waits, where it isn't complete, doesn't close for the least list
  pub first_open : (i : ℕ) → IsFirst p prefixes nodes i → length (prefix_at prefixes i) < length p.own → (cs : List Choice) → IsLeast p cs → IsOpen p cs (prefix_at prefixes i)
  first_open i first short cs least = record {
    fits = search.stand.fits i first.within;
    short = short;
    unclosed = below (waiting_below cs least.assigned);
  }
    where
      not_whole : prefix_at prefixes i ≡ cs → ⊥
      not_whole same = let size = ap length same in let whole = least.assigned.whole in omega (arith, size, whole, short)

      by_follows : (k : ℕ) (more : List Choice) → cs ≡ prefix_at prefixes k ++ more → bound_of p (prefix_at prefixes k) ≤ cost_of p cs → (k ≡ i) ⊎ Follows p (prefix_at prefixes i) (prefix_at prefixes k) → ClosesAt p cs (prefix_at prefixes i) → ⊥
      by_follows k more is under order (inr (inr same)) = not_whole same
      by_follows k more is under (inl same) (inl dear) = let here = ap (λ (j : ℕ). bound_of p (prefix_at prefixes j)) same in omega (arith, here, under, dear)
      by_follows k more is under (inl same) (inr (inl (equal, later))) =
          not_later_shorter (prefix_at prefixes i) more (subst (λ (ds : List Choice). IsLater (prefix_at prefixes i) ds) (is ∙ ap (λ (j : ℕ). prefix_at prefixes j ++ more) same) later)
      by_follows k more is under (inr (inl greater)) (inl dear) = omega (arith, greater, under, dear)
      by_follows k more is under (inr (inl greater)) (inr (inl (equal, later))) = omega (arith, greater, under, equal)
      by_follows k more is under (inr (inr (least, later))) (inl dear) = omega (arith, least, under, dear)
      by_follows k more is under (inr (inr (least, behind))) (inr (inl (equal, later))) =
          not_both_later (prefix_at prefixes i) cs later (subst (λ (ds : List Choice). IsLater ds (prefix_at prefixes i)) (sym is) (later_on (prefix_at prefixes k) (prefix_at prefixes i) more behind))

      below : (k : ℕ) × (k < length nodes) × ((node_at nodes k).count ≡ 0) × (more : List Choice) × (cs ≡ prefix_at prefixes k ++ more) → ClosesAt p cs (prefix_at prefixes i) → ⊥
      below (k, within, waits, more, is) closes =
          let under = bound_below p problem (prefix_at prefixes k) more (subst (λ (ds : List Choice). IsAssignment p ds) is least.assigned) in
          by_follows k more is (subst (λ (ds : List Choice). bound_of p (prefix_at prefixes k) ≤ cost_of p ds) (sym is) under) (first.others k within waits) closes

  -- where the first that waits is complete, all that wait close for it
  pub first_closes : (i : ℕ) → IsFirst p prefixes nodes i → length (prefix_at prefixes i) ≡ length p.own → (k : ℕ) → k < length nodes → (node_at nodes k).count ≡ 0 → ClosesAt p (prefix_at prefixes i) (prefix_at prefixes k)
  first_closes i first whole k within waits = by_follows (first.others k within waits)
    where
      cost : bound_of p (prefix_at prefixes i) ≡ cost_of p (prefix_at prefixes i)
      cost = bound_of_whole p problem (prefix_at prefixes i) whole

      by_follows : (k ≡ i) ⊎ Follows p (prefix_at prefixes i) (prefix_at prefixes k) → ClosesAt p (prefix_at prefixes i) (prefix_at prefixes k)
      by_follows (inl same) = inr (inr (ap (prefix_at prefixes) same))
      by_follows (inr (inl greater)) = inl (omega (arith, greater, cost))
      by_follows (inr (inr (least, later))) = elim (cases_lt (bound_of p (prefix_at prefixes i)) (bound_of p (prefix_at prefixes k))) [
        | inl greater ↦ inl (omega (arith, greater, cost))
        | inr equal ↦ inr (inl (omega (arith, equal, least, cost), later))
      ]

  -- and it is the least list
  pub first_least : (i : ℕ) → IsFirst p prefixes nodes i → length (prefix_at prefixes i) ≡ length p.own → IsLeast p (prefix_at prefixes i)
  first_least i first whole = record { assigned = assigned; before_all = λ ds other. by_below ds other (waiting_below ds other) }
    where
      assigned : IsAssignment p (prefix_at prefixes i)
      assigned = record { fits = search.stand.fits i first.within; whole = whole }

      by_below : (ds : List Choice) → IsAssignment p ds → (k : ℕ) × (k < length nodes) × ((node_at nodes k).count ≡ 0) × (more : List Choice) × (ds ≡ prefix_at prefixes k ++ more) → Before p (prefix_at prefixes i) ds
      by_below ds other (k, within, waits, more, is) =
          subst (λ (es : List Choice). Before p (prefix_at prefixes i) es) (sym is)
          (closes_below p problem (prefix_at prefixes i) (prefix_at prefixes k) more assigned (subst (λ (es : List Choice). IsAssignment p es) is other) (first_closes i first whole k within waits))

pub nothing_split : (p : Costs) (nodes : List Node) (leasts : List ℕ) → IsSearch p ([] ∷ []) nodes leasts → IsSearched p ([] ∷ []) [] nodes leasts
nothing_split p nodes leasts search = record {
  search = search;
  differ = λ i j d before within. absurd (omega arith);
  opens = All-nil (λ q. (cs : List Choice) → IsLeast p cs → IsOpen p cs q);
  from = All-nil (HasBranch ([] ∷ []) nodes);
  into = λ k within some. absurd (none k within some);
  size = omega (arith, one);
}
  where
    one : length nodes ≡ 1
    one = sym search.stand.size

    none : (k : ℕ) → k < length nodes → 0 < (node_at nodes k).count → ⊥
    none k within some =
        let split = search.arena.split k within some in
        let after = split.after in
        let inside = split.within in
        omega (arith, after, inside, one, some)

module _ (p : Costs) (problem : IsProblem p) (prefixes popped : List (List Choice)) (nodes : List Node) (leasts : List ℕ) (searched : IsSearched p prefixes popped nodes leasts) (i : ℕ) (first : IsFirst p prefixes nodes i) where
  search : IsSearch p prefixes nodes leasts
  search = searched.search

  -- where the first is complete, the arena shows that it is the least
  pub whole_shown : length (prefix_at prefixes i) ≡ length p.own → IsShown p (prefix_at prefixes i) prefixes nodes
  whole_shown whole = record {
    closed = first_closes p problem prefixes nodes leasts search i first whole;
    unclosed = λ k within some. (All-contains (λ q. (cs : List Choice) → IsLeast p cs → IsOpen p cs q) popped (prefix_at prefixes k) searched.opens (searched.into k within some) (prefix_at prefixes i) (first_least p problem prefixes nodes leasts search i first whole)).unclosed;
  }

  -- and each prefix that doesn't close was split
  open_was_split : length (prefix_at prefixes i) ≡ length p.own → (q : List Choice) → IsOpen p (prefix_at prefixes i) q → Contains popped q
  open_was_split whole q is_open =
      let from : q ≡ prefix_at prefixes 0 ++ q = ap (λ (r : List Choice). r ++ q) (sym search.stand.root) in
      by_end from (reached p prefixes nodes search.arena search.stand q 0 search.arena.some (subst (λ (ds : List Choice). Fits p.own ds) from is_open.fits))
    where
      closed : (k : ℕ) → k < length nodes → (node_at nodes k).count ≡ 0 → ClosesAt p (prefix_at prefixes i) (prefix_at prefixes k)
      closed = first_closes p problem prefixes nodes leasts search i first whole

      by_count : (k : ℕ) → k < length nodes → prefix_at prefixes k ≡ q → Contains popped q
      by_count k within is = elim (cases_eq (node_at nodes k).count 0) [
        | inl waits ↦ absurd (is_open.unclosed (subst (λ (ds : List Choice). ClosesAt p (prefix_at prefixes i) ds) is (closed k within waits)))
        | inr some ↦ subst (λ (ds : List Choice). Contains popped ds) is (searched.into k within (omega (arith, some)))
      ]

      by_end : q ≡ prefix_at prefixes 0 ++ q → (k : ℕ) × (k < length nodes) × ((prefix_at prefixes k ≡ prefix_at prefixes 0 ++ q) ⊎ (((node_at nodes k).count ≡ 0) × (more : List Choice) × (prefix_at prefixes 0 ++ q ≡ prefix_at prefixes k ++ more))) → Contains popped q
      by_end from (k, within, inl is) = by_count k within (is ∙ sym from)
      by_end from (k, within, inr (waits, more, is)) =
          let all : q ≡ prefix_at prefixes k ++ more = from ∙ is in
          let fits = subst (λ (ds : List Choice). Fits p.own ds) all is_open.fits in
          let short = subst (λ (ds : List Choice). length ds < length p.own) all is_open.short in
          absurd (is_open.unclosed (subst (λ (ds : List Choice). ClosesAt p (prefix_at prefixes i) ds) (sym all) (closes_longer p problem (prefix_at prefixes i) (prefix_at prefixes k) more whole fits short (closed k within waits))))

  pub whole_few : length (prefix_at prefixes i) ≡ length p.own → length popped ≤ 2 ^ 18 → HasFewOpen p (prefix_at prefixes i)
  whole_few whole few qs differ opens =
      let within = differ_within qs popped differ (All-weaker (IsOpen p (prefix_at prefixes i)) (Contains popped) (open_was_split whole) qs opens) in
      omega (arith, within, few)

  not_split : All (λ q. prefix_at prefixes i ≢ q) popped
  not_split = All-weaker (HasBranch prefixes nodes) (λ q. prefix_at prefixes i ≢ q) apart popped searched.from
    where
      apart : (q : List Choice) → HasBranch prefixes nodes q → prefix_at prefixes i ≢ q
      apart q (k, within, some, is) same =
          let number = same_number p prefixes nodes search.arena search.stand i i k (omega arith) first.within within (same ∙ sym is) in
          let count = ap (λ (j : ℕ). (node_at nodes j).count) number in
          let waits = first.waits in
          omega (arith, count, waits, some)

  module _ (short : length (prefix_at prefixes i) < length p.own) where
    abbrev split : List Node
    split = split_at nodes i (choices_at p (prefix_at prefixes i))

    abbrev longer : List (List Choice)
    longer = prefixes ++ children p (prefix_at prefixes i)

    old_branch : (k : ℕ) → k < length nodes → 0 < (node_at nodes k).count → (k < length split) × (node_at split k ≡ node_at nodes k) × (prefix_at longer k ≡ prefix_at prefixes k)
    old_branch k within some =
        let size = size_split p problem prefixes nodes leasts search i first.within first.waits short in
        let total = size.0 in
        let waits = first.waits in (
          omega (arith, total, within),
          node_old p problem prefixes nodes leasts search i first.within first.waits short k within (λ same. (let count = ap (λ (j : ℕ). (node_at nodes j).count) same in omega (arith, count, waits, some))),
          prefix_old p problem prefixes nodes leasts search i first.within first.waits short k within,
        )

    -- the same where the first is split and the least bounds are brought up to date
    pub split_searched : (new : List ℕ) → length new ≡ length split → HasLeasts split new → ((k : ℕ) → k < length split → (node_at split k).count ≡ 0 → get_or new k 0 ≡ get_or (with_bounds p leasts (prefix_at prefixes i) (choices_at p (prefix_at prefixes i))) k 0) → IsSearched p longer (prefix_at prefixes i ∷ popped) split new
    split_searched new size right waiting = record {
      search = record {
        arena = arena_split p problem prefixes nodes leasts search i first.within first.waits short;
        stand = stand_split p problem prefixes nodes leasts search i first.within first.waits short;
        size = size;
        bounds = λ k within waits. waiting k within waits ∙ bounds_split p problem prefixes nodes leasts search i first.within first.waits short k within waits;
        least = right;
      };
      differ = AllPairs-cons (λ one two. one ≢ two) (prefix_at prefixes i) popped not_split searched.differ;
      opens = All-cons (λ q. (cs : List Choice) → IsLeast p cs → IsOpen p cs q) (prefix_at prefixes i) popped (first_open p problem prefixes nodes leasts search i first short) searched.opens;
      from = All-cons (HasBranch longer split) (prefix_at prefixes i) popped here (All-weaker (HasBranch prefixes nodes) (HasBranch longer split) there popped searched.from);
      into = into;
      size = (let total = (size_split p problem prefixes nodes leasts search i first.within first.waits short).0 in let few = choices_few p (prefix_at prefixes i) in let old = searched.size in omega (arith, total, few, old));
    }
      where
        total : length split ≡ length nodes + length (choices_at p (prefix_at prefixes i))
        total = (size_split p problem prefixes nodes leasts search i first.within first.waits short).0

        here : HasBranch longer split (prefix_at prefixes i)
        here = (let within = first.within in (i, omega (arith, total, within), now_split p problem prefixes nodes leasts search i first.within first.waits short, prefix_old p problem prefixes nodes leasts search i first.within first.waits short i first.within))

        there : (q : List Choice) → HasBranch prefixes nodes q → HasBranch longer split q
        there q (k, within, some, is) =
            let old = old_branch k within some in
            let count = ap (λ (node : Node). node.count) (old.1) in
            (k, old.0, omega (arith, count, some), old.2 ∙ is)

        into : (k : ℕ) → k < length split → 0 < (node_at split k).count → Contains (prefix_at prefixes i ∷ popped) (prefix_at longer k)
        into k within some = by_place p problem prefixes nodes leasts search i first.within first.waits short (λ j. 0 < (node_at split j).count → Contains (prefix_at prefixes i ∷ popped) (prefix_at longer j))
            (λ more. (0, omega arith, sym (prefix_old p problem prefixes nodes leasts search i first.within first.waits short i first.within)))
            (λ j below apart more. (
            let node = node_old p problem prefixes nodes leasts search i first.within first.waits short j below apart in
            let count = ap (λ (n : Node). n.count) node in
            let old = prefix_old p problem prefixes nodes leasts search i first.within first.waits short j below in
            let found = searched.into j below (omega (arith, count, more)) in
            subst (λ (q : List Choice). Contains (prefix_at prefixes i ∷ popped) q) (sym old) (suc found.0, (let inside = found.1 in omega (arith, inside)), found.2)))
            (λ n below more. absurd (let none = ap (λ (node : Node). node.count) (node_new p problem prefixes nodes leasts search i first.within first.waits short n below) in omega (arith, none, more)))
            k within some

-- the nodes and bounds once the first that waits was split, by the prefix as it stands on the path
module _ (p : Costs) (problem : IsProblem p) (prefixes popped : List (List Choice)) (nodes : List Node) (leasts : List ℕ) (q : List Choice) (i : ℕ) (at : IsAt p prefixes popped nodes leasts q i) (short : length q < length p.own) (new : List Node) (bounds : List ℕ) (is_new : new ≡ split_at nodes i (choices_at p q)) (is_bounds : bounds ≡ with_bounds p leasts q (choices_at p q)) where
  less : length (prefix_at prefixes i) < length p.own
  less = subst (λ (r : List Choice). length r < length p.own) at.is short

  new_is : new ≡ split_at nodes i (choices_at p (prefix_at prefixes i))
  new_is = is_new ∙ ap (λ (r : List Choice). split_at nodes i (choices_at p r)) at.is

  bounds_are : bounds ≡ with_bounds p leasts (prefix_at prefixes i) (choices_at p (prefix_at prefixes i))
  bounds_are = is_bounds ∙ ap (λ (r : List Choice). with_bounds p leasts r (choices_at p r)) at.is

  pub new_arena : IsArena new
  new_arena = subst IsArena (sym new_is) (arena_split p problem prefixes nodes leasts at.searched.search i at.first.within at.first.waits less)

  pub new_within : i < length new
  new_within = (let total = (size_split p problem prefixes nodes leasts at.searched.search i at.first.within at.first.waits less).0 in let long = ap length new_is in let within = at.first.within in omega (arith, total, long, within))

  pub new_size : length bounds ≡ length new
  new_size = ap length bounds_are ∙ (size_split p problem prefixes nodes leasts at.searched.search i at.first.within at.first.waits less).1 ∙ sym (ap length new_is)

  pub new_some : 0 < (node_at new i).count
  new_some = subst (λ (ns : List Node). 0 < (node_at ns i).count) (sym new_is) (now_split p problem prefixes nodes leasts at.searched.search i at.first.within at.first.waits less)

  pub new_others : (k : ℕ) → k < length new → 0 < (node_at new k).count → k ≢ i → IsLeastBelow (node_at new k) bounds (get_or bounds k 0)
  new_others k within some apart =
      rw (new_is, bounds_are) (leasts_split p problem prefixes nodes leasts at.searched.search i at.first.within at.first.waits less k (subst (λ (ns : List Node). k < length ns) new_is within) (subst (λ (ns : List Node). 0 < (node_at ns k).count) new_is some) apart)

  pub new_searched : (lifted : List ℕ) → length lifted ≡ length bounds → HasLeasts new lifted → ((k : ℕ) → k < length new → (node_at new k).count ≡ 0 → get_or lifted k 0 ≡ get_or bounds k 0) → (longer : List (List Choice)) × IsSearched p longer (prefix_at prefixes i ∷ popped) new lifted
  new_searched lifted size right waiting = (
    prefixes ++ children p (prefix_at prefixes i),
    subst (λ (ns : List Node). IsSearched p (prefixes ++ children p (prefix_at prefixes i)) (prefix_at prefixes i ∷ popped) ns lifted) (sym new_is)
        (split_searched p problem prefixes popped nodes leasts at.searched i at.first less lifted (size ∙ new_size ∙ ap length new_is) (subst (λ (ns : List Node). HasLeasts ns lifted) new_is right)
        (λ k within waits. waiting k (subst (λ (ns : List Node). k < length ns) (sym new_is) within) (subst (λ (ns : List Node). (node_at ns k).count ≡ 0) (sym new_is) waits) ∙ ap (λ (ls : List ℕ). get_or ls k 0) bounds_are)),
  )

-- what is found is the first that waits
pub found_at : (p : Costs) (prefixes popped : List (List Choice)) (nodes nodes' : List Node) (leasts leasts' : List ℕ) (path : List Choice) (depth number : ℕ) → IsSearched p prefixes popped nodes leasts → nodes' ≡ nodes → leasts' ≡ leasts → ((prefixes : List (List Choice)) → IsSearch p prefixes nodes' leasts' → IsFirst p prefixes nodes' number × (take depth path ≡ prefix_at prefixes number)) → IsAt p prefixes popped nodes leasts (take depth path) number
found_at p prefixes popped nodes nodes' leasts leasts' path depth number searched same same' found =
    let first = found prefixes (rw (same, same') searched.search) in
    record {
      searched = searched;
      first = subst (λ (ns : List Node). IsFirst p prefixes ns number) same first.0;
      is = first.1;
    }

-- more prefixes were split than there may be
pub many_open : (p : Costs) → IsProblem p → (prefixes popped : List (List Choice)) (nodes : List Node) (leasts : List ℕ) → IsSearched p prefixes popped nodes leasts → 2 ^ 18 < length popped → (cs : List Choice) × IsLeast p cs × HasManyOpen p cs
many_open p problem prefixes popped nodes leasts searched many =
    let least = some_least p problem in
    (least.0, least.1, (popped, searched.differ, All-weaker (λ q. (cs : List Choice) → IsLeast p cs → IsOpen p cs q) (IsOpen p least.0) (λ q opens. opens least.0 least.1) popped searched.opens, many))
