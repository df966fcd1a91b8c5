-- The bound never falls, is the cost of a complete list, and lies below the cost of each list that
-- extends its prefix; a tree that closes shows that no list comes before the given one.
use Rattle.std.proofs.Common.{◌≡◌, ℕ, ◌+◌, ◌<◌, ◌≤◌, Bool, true, false, cond, nat_lt, List, [], ◌∷◌, ◌++◌, length, drop, map, get_or, Option, Some, None, IsSome, sym, ◌∙◌, ap, subst, refl, inl, inr, ◌⊎◌, arith, length-append, append_assoc, length-drop}
use Rattle.std.specs.List.{filter}
use Rattle.std.specs.Option.{is_some}
use Rattle.std.proofs.lemmas.Bool.{cases_lt}
use Rattle.std.proofs.lemmas.Bool.Decides.{nat_tests}
use Rattle.std.proofs.lemmas.List.{length_push, get_or-drop, drop-drop, drop_all, append-nil}
use Rattle.choice_core.specs.declared.sharings.Choice.{Choice}
use Rattle.choice_core.specs.declared.sharings.Choice.TheVariants.{A, Y, C, S}
use Rattle.choice_core.specs.declared.problems.Costs.{Costs}
use Rattle.choice_core.specs.declared.trees.TreeNode.{TreeNode}
use Rattle.choice_core.specs.declared.trees.TreeNode.TheVariants.{Branch, Leaf}
use Rattle.choice_core.specs.Choices.{place}
use Rattle.choice_core.specs.Problems.{Row, own_of, own_sum, cost_of, Fits, IsAssignment, IsFan, IsProblem}
use Rattle.choice_core.specs.Bound.{least_past, least_price, bound_of}
use Rattle.choice_core.specs.Least.{IsLater, IsLeast, ClosesAt, children, ClosesAll, Closes}
use Rattle.choice_core.proofs.Sums.{sum_le, sum_zero, Fits-left, Fits-right, Fits-within}
use Rattle.choice_core.proofs.Steps.{term, term_step, bound_le_terms, bound_is_terms, first_next}

pub fits_head : (rows : List Row) (c : Choice) (cs : List Choice) → Fits rows (c ∷ cs) → IsSome (own_of (get_or rows 0 []) c) × Fits (drop 1 rows) cs
unfolding Fits
fits_head [] c cs fits = absurd fits
fits_head (row ∷ rows) c cs fits = fits

fits_push : (rows : List Row) (c : Choice) → IsSome (own_of (get_or rows 0 []) c) → 0 < length rows → (cs : List Choice) → Fits (drop 1 rows) cs → Fits rows (c ∷ cs)
unfolding Fits
fits_push [] c allowed some cs fits = absurd (omega arith)
fits_push (row ∷ rows) c allowed some cs fits = (allowed, fits)

-- one more choice
bound_step : (p : Costs) → IsProblem p → (prefix : List Choice) (c : Choice) → Fits p.own (prefix ++ c ∷ []) → bound_of p prefix ≤ bound_of p (prefix ++ c ∷ [])
bound_step p problem prefix c fits =
    let k = length prefix in
    let right = Fits-right p.own prefix (c ∷ []) fits in
    let head = fits_head (drop k p.own) c [] right in
    let within : length prefix + 1 ≤ length p.own = (let h = Fits-within p.own (prefix ++ c ∷ []) fits in rw length_push at h) in
    let found = bound_is_terms p (prefix ++ c ∷ []) problem.choices in
    let size : length (prefix ++ c ∷ []) ≡ k + 1 = length_push prefix c in
    let rows : drop (length (prefix ++ c ∷ [])) p.own ≡ drop (k + 1) p.own = ap (λ (i : ℕ). drop i p.own) size in
    let fits_on : Fits (drop (k + 1) p.own) found.0 = subst (λ (r : List Row). Fits r found.0) rows found.1 in
    let whole_on : length found.0 ≡ length (drop (k + 1) p.own) = found.2 ∙ ap length rows in
    let allowed : IsSome (own_of (get_or p.own k []) c) = subst (λ (r : Row). IsSome (own_of r c)) (get_or-drop k p.own 0 [] ∙ ap (λ (i : ℕ). get_or p.own i []) (omega arith)) head.0 in
    let fits_all : Fits (drop k p.own) (c ∷ found.0) = fits_push (drop k p.own) c head.0 (rw length-drop (omega arith)) found.0 (subst (λ (r : List Row). Fits r found.0) (sym (drop-drop 1 k p.own)) fits_on) in
    let whole_all : length (c ∷ found.0) ≡ length (drop k p.own) = (let w = rw length-drop at whole_on in rw length-drop (omega (arith, w, within))) in
    let below = bound_le_terms p prefix (c ∷ found.0) fits_all whole_all in
    let terms = sum_le (IsFan (length p.own)) (λ f. term p.own f prefix (c ∷ found.0)) (λ f. term p.own f (prefix ++ c ∷ []) found.0) p.fans problem.fans
    (λ f fan. term_step p.own f prefix c found.0 fan allowed fits_on whole_on) in
    let same : own_sum p.own (prefix ++ c ∷ found.0) ≡ own_sum p.own ((prefix ++ c ∷ []) ++ found.0) = ap (own_sum p.own) (sym (append_assoc prefix (c ∷ []) found.0)) in
    omega (arith, below, terms, same, found.3)

-- a longer prefix has no lesser bound
pub bound_rises : (p : Costs) → IsProblem p → (prefix rest : List Choice) → Fits p.own (prefix ++ rest) → bound_of p prefix ≤ bound_of p (prefix ++ rest)
bound_rises p problem prefix [] fits = rw (append-nil prefix) (omega arith)
bound_rises p problem prefix (c ∷ rest) fits =
    let same : prefix ++ c ∷ rest ≡ (prefix ++ c ∷ []) ++ rest = sym (append_assoc prefix (c ∷ []) rest) in
    let fits' : Fits p.own ((prefix ++ c ∷ []) ++ rest) = subst (λ (cs : List Choice). Fits p.own cs) same fits in
    let one = bound_step p problem prefix c (Fits-left p.own (prefix ++ c ∷ []) rest fits') in
    let more = bound_rises p problem (prefix ++ c ∷ []) rest fits' in
    rw same (omega (arith, one, more))

-- the bound of a complete list is its cost
pub bound_of_whole : (p : Costs) → IsProblem p → (cs : List Choice) → length cs ≡ length p.own → bound_of p cs ≡ cost_of p cs
unfolding least_past
bound_of_whole p problem cs whole =
    let none = sum_zero (IsFan (length p.own)) (λ f. cond (nat_lt f.from (length cs)) 0 (least_price p.own f)) p.fans problem.fans
    (λ f fan. (let first = first_next f.from (length p.own) f.to fan.some fan.ascends in
    let test : nat_lt f.from (length cs) ≡ true = (let below : f.from < length cs = omega (arith, first.1, first.2, whole) in grind (arith, nat_tests)) in rw test refl)) in
    let past : drop (length cs) p.own ≡ [] = drop_all (length cs) p.own (omega (arith, whole)) in
    rw past (omega (arith, none))

-- the bound of a prefix is at most the cost of each complete list that extends it
pub bound_below : (p : Costs) → IsProblem p → (prefix rest : List Choice) → IsAssignment p (prefix ++ rest) → bound_of p prefix ≤ cost_of p (prefix ++ rest)
bound_below p problem prefix rest assigned =
    let rises = bound_rises p problem prefix rest assigned.fits in
    let whole = bound_of_whole p problem (prefix ++ rest) assigned.whole in
    omega (arith, rises, whole)

pub later_on : (prefix cs rest : List Choice) → IsLater prefix cs → IsLater (prefix ++ rest) cs
unfolding IsLater
later_on [] cs rest later = absurd later
later_on (c ∷ prefix) [] rest later = absurd later
later_on (c ∷ prefix) (d ∷ cs) rest (inl more) = inl more
later_on (c ∷ prefix) (d ∷ cs) rest (inr (same, later)) = inr (same, later_on prefix cs rest later)

abbrev pub Before : Costs → List Choice → List Choice → Type 0
Before p cs ds = (cost_of p cs < cost_of p ds) ⊎ ((cost_of p cs ≡ cost_of p ds) × (IsLater ds cs ⊎ (ds ≡ cs)))

-- below a prefix that closes, nothing comes before the given list
pub closes_below : (p : Costs) → IsProblem p → (cs prefix rest : List Choice) → IsAssignment p cs → IsAssignment p (prefix ++ rest) → ClosesAt p cs prefix → Before p cs (prefix ++ rest)
closes_below p problem cs prefix rest assigned other (inl more) = let below = bound_below p problem prefix rest other in inl (omega (arith, below, more))
closes_below p problem cs prefix rest assigned other (inr (inl (same, later))) =
    let below = bound_below p problem prefix rest other in
    elim (cases_lt (cost_of p cs) (cost_of p (prefix ++ rest))) [
      | inl less ↦ inl less
      | inr least ↦ inr (omega (arith, below, same, least), inl (later_on prefix cs rest later))
    ]
closes_below p problem cs prefix rest assigned other (inr (inr same)) =
    let lengths : length rest ≡ 0 = omega (arith, other.whole, assigned.whole, ap length same, length-append prefix rest) in
    let none : rest ≡ [] = empty rest lengths in
    let all : prefix ++ rest ≡ cs = ap (λ (ds : List Choice). prefix ++ ds) none ∙ append-nil prefix ∙ same in
    inr (ap (cost_of p) (sym all), inr all)
  where
    empty : (xs : List Choice) → length xs ≡ 0 → xs ≡ []
    empty [] h = refl
    empty (x ∷ xs) h = absurd (omega arith)

-- the list extends one of the prefixes
Among : List (List Choice) → List Choice → Type 0
Among [] ds = ⊥
Among (prefix ∷ prefixes) ds = ((rest : List Choice) × (ds ≡ prefix ++ rest)) ⊎ Among prefixes ds

among_right : (one two : List (List Choice)) (ds : List Choice) → Among two ds → Among (one ++ two) ds
unfolding Among
among_right [] two ds among = among
among_right (prefix ∷ one) two ds among = inr (among_right one two ds among)

In : Choice → List Choice → Type 0
In d [] = ⊥
In d (c ∷ cs) = (c ≡ d) ⊎ In d cs

in_all : (d : Choice) → In d (A ∷ Y ∷ C ∷ S ∷ [])
unfolding In
in_all A = inl refl
in_all Y = inr (inl refl)
in_all C = inr (inr (inl refl))
in_all S = inr (inr (inr (inl refl)))

among_children : (test : Choice → Bool) (prefix : List Choice) (cs : List Choice) (more : List (List Choice)) (d : Choice) (rest ds : List Choice) → In d cs → test d ≡ true → ds ≡ (prefix ++ d ∷ []) ++ rest → Among (map (λ c. prefix ++ c ∷ []) (filter test cs) ++ more) ds
unfolding Among In
among_children test prefix [] more d rest ds there passes is = absurd there
among_children test prefix (c ∷ cs) more d rest ds (inl same) passes is =
    let first : test c ≡ true = ap test same ∙ passes in
    rw first (inl (rest, is ∙ ap (λ (e : Choice). (prefix ++ e ∷ []) ++ rest) (sym same)))
among_children test prefix (c ∷ cs) more d rest ds (inr later) passes is = by_test (test c) (among_children test prefix cs more d rest ds later passes is)
  where
    by_test : (b : Bool) → Among (map (λ e. prefix ++ e ∷ []) (filter test cs) ++ more) ds → Among (map (λ e. prefix ++ e ∷ []) (cond b (c ∷ filter test cs) (filter test cs)) ++ more) ds
    by_test true among = inr among
    by_test false among = among

pub is_some_true : {X : Type 0} (o : Option X) → IsSome o → is_some o ≡ true
is_some_true None some = some
is_some_true (Some x) some = refl

-- of all lists that extend the prefixes at which the nodes stand, none comes before the given one
tree_below : (p : Costs) → IsProblem p → (cs : List Choice) → IsAssignment p cs → (prefixes : List (List Choice)) (nodes : List TreeNode) → ClosesAll p cs prefixes nodes → (ds : List Choice) → IsAssignment p ds → Among prefixes ds → Before p cs ds
unfolding ClosesAll Among
tree_below p problem cs assigned [] nodes closes ds other among = absurd among
tree_below p problem cs assigned (prefix ∷ more) [] closes ds other among = absurd closes
tree_below p problem cs assigned (prefix ∷ more) (Leaf bound ∷ nodes) closes ds other (inl (rest, is)) =
    subst (λ (es : List Choice). Before p cs es) (sym is) (closes_below p problem cs prefix rest assigned (subst (λ (es : List Choice). IsAssignment p es) is other) closes.1)
tree_below p problem cs assigned (prefix ∷ more) (Leaf bound ∷ nodes) closes ds other (inr among) = tree_below p problem cs assigned more nodes closes.2 ds other among
tree_below p problem cs assigned (prefix ∷ more) (Branch ∷ nodes) closes ds other (inl ([], is)) = absurd (
    let same = ap length is in let short = closes.0 in omega (arith, same, length-append prefix [], other.whole, short))
tree_below p problem cs assigned (prefix ∷ more) (Branch ∷ nodes) closes ds other (inl (d ∷ rest, is)) =
    let fits : Fits p.own (prefix ++ d ∷ rest) = subst (λ (es : List Choice). Fits p.own es) is other.fits in
    let head = fits_head (drop (length prefix) p.own) d rest (Fits-right p.own prefix (d ∷ rest) fits) in
    let allowed : IsSome (own_of (get_or p.own (length prefix) []) d) = subst (λ (r : Row). IsSome (own_of r d)) (get_or-drop (length prefix) p.own 0 [] ∙ ap (λ (i : ℕ). get_or p.own i []) (omega arith)) head.0 in
    tree_below p problem cs assigned (children p prefix ++ more) nodes closes.1 ds other
    (among_children (λ c. is_some (own_of (get_or p.own (length prefix) []) c)) prefix (A ∷ Y ∷ C ∷ S ∷ []) more d rest ds (in_all d) (is_some_true (own_of (get_or p.own (length prefix) []) d) allowed) (is ∙ sym (append_assoc prefix (d ∷ []) rest)))
tree_below p problem cs assigned (prefix ∷ more) (Branch ∷ nodes) closes ds other (inr among) =
    tree_below p problem cs assigned (children p prefix ++ more) nodes closes.1 ds other (among_right (children p prefix) more ds among)

-- a tree that closes shows the least list
pub closes_least : (p : Costs) → IsProblem p → (cs : List Choice) → IsAssignment p cs → (nodes : List TreeNode) → Closes p cs nodes → IsLeast p cs
unfolding Among
closes_least p problem cs assigned nodes closes = record {
  assigned = assigned;
  before_all = λ ds other. tree_below p problem cs assigned ([] ∷ []) nodes closes ds other (inl (ds, refl));
}

pub not_both_later : (cs ds : List Choice) → IsLater cs ds → IsLater ds cs → ⊥
unfolding IsLater
not_both_later [] ds one two = one
not_both_later (c ∷ cs) [] one two = one
not_both_later (c ∷ cs) (d ∷ ds) (inl less) (inl more) = omega (arith, less, more)
not_both_later (c ∷ cs) (d ∷ ds) (inl less) (inr (same, later)) = let places = ap place same in omega (arith, less, places)
not_both_later (c ∷ cs) (d ∷ ds) (inr (same, later)) (inl more) = let places = ap place same in omega (arith, more, places)
not_both_later (c ∷ cs) (d ∷ ds) (inr (same, one)) (inr (back, two)) = not_both_later cs ds one two

-- a problem has one least list
pub least_same : (p : Costs) (cs ds : List Choice) → IsLeast p cs → IsLeast p ds → cs ≡ ds
least_same p cs ds one two = by_both (one.before_all ds two.assigned) (two.before_all cs one.assigned)
  where
    by_both : Before p cs ds → Before p ds cs → cs ≡ ds
    by_both (inl less) (inl more) = absurd (omega (arith, less, more))
    by_both (inl less) (inr (equal, rest)) = absurd (omega (arith, less, equal))
    by_both (inr (equal, rest)) (inl more) = absurd (omega (arith, more, equal))
    by_both (inr (equal, inr same)) (inr (back, rest)) = sym same
    by_both (inr (equal, inl later)) (inr (back, inl earlier)) = absurd (not_both_later ds cs later earlier)
    by_both (inr (equal, inl later)) (inr (back, inr same)) = same
