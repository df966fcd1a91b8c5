-- What is due before and after a node.
use Rattle.std.proofs.Common.{◌≡◌, ℕ, suc, ◌+◌, ◌<◌, ◌≤◌, ltb, inl, inr, refl, sym, ◌∙◌, ap, subst, Bool, true, false, cond, eqb, List, [], ◌∷◌, ◌++◌, length, take, drop, map, set, get_or, arith, length-append, length-take-le}
use Rattle.std.specs.List.{All, Any}
use Rattle.std.proofs.lemmas.Bool.Decides.{nat_tests}
use Rattle.std.proofs.lemmas.List.{length-map, map-append, drop_more, drop_all}
use Rattle.std.proofs.lemmas.List.Elements.{All-tail, All-cons, All-append, All-nil}
use Rattle.choice_core.specs.declared.sharings.Choice.{Choice}
use Rattle.choice_core.specs.declared.problems.Costs.{Costs}
use Rattle.choice_core.specs.declared.trees.TreeNode.{TreeNode}
use Rattle.choice_core.specs.declared.trees.TreeNode.TheVariants.{Branch, Leaf}
use Rattle.choice_core.specs.Choices.{place}
use Rattle.choice_core.specs.Bound.{bound_of}
use Rattle.choice_core.specs.Least.{children, ClosesAll}
use Rattle.choice_check.specs.declared.faults.TreeFault.{TreeFault}
use Rattle.choice_check.specs.declared.faults.TreeFault.TheVariants.{Shape, Leaf as LeafFault}
use Rattle.choice_check.specs.declared.walks.Walk.{Walk}
use Rattle.choice_check.specs.Faults.{Due, children_of, IsSound, IsFaultFrom}
use Rattle.choice_check.specs.Walks.{choices_from, row_of, with_choices, siblings, IsPath, EndsAt, prefixes, IsWalk, GoesOn, Stops}
use Rattle.choice_check.proofs.Siblings.{placed, children_is}

abbrev as_due : ℕ → List Choice → Due
as_due number child = record { branch = number; prefix = child }

prefixes_of : (number : ℕ) (qs : List (List Choice)) → prefixes (map (as_due number) qs) ≡ qs
prefixes_of number [] = refl
prefixes_of number (q ∷ qs) = ap (λ (t : List (List Choice)). q ∷ t) (prefixes_of number qs)

prefixes_both : (number : ℕ) (qs : List (List Choice)) (dues : List Due) → prefixes (map (as_due number) qs ++ dues) ≡ qs ++ prefixes dues
prefixes_both number qs dues = map-append (λ (due : Due). due.prefix) (map (as_due number) qs) dues ∙ ap (λ (t : List (List Choice)). t ++ prefixes dues) (prefixes_of number qs)

all_of : (number low : ℕ) (qs : List (List Choice)) → low ≤ number → All (λ (due : Due). low ≤ due.branch) (map (as_due number) qs)
all_of number low [] le = All-nil (λ (due : Due). low ≤ due.branch)
all_of number low (q ∷ qs) le = All-cons (λ (due : Due). low ≤ due.branch) (as_due number q) (map (as_due number) qs) le (all_of number low qs le)

ends_behind : (n : ℕ) (xs : List Due) (due : Due) (dues : List Due) → EndsAt n (due ∷ dues) → EndsAt n (xs ++ due ∷ dues)
unfolding EndsAt
ends_behind n [] due dues ends = ends
ends_behind n (x ∷ []) due dues ends = ends
ends_behind n (x ∷ y ∷ xs) due dues ends = ends_behind n (y ∷ xs) due dues ends

ends_of : (n : ℕ) (q : List Choice) (qs : List (List Choice)) → EndsAt n (map (as_due n) (q ∷ qs) ++ [])
unfolding EndsAt
ends_of n q [] = refl
ends_of n q (r ∷ qs) = ends_of n r qs

ends_tail : (n : ℕ) (due : Due) (dues : List Due) → 0 < length dues → EndsAt n (due ∷ dues) → EndsAt n dues
unfolding EndsAt
ends_tail n due [] some ends = absurd (omega (arith, some))
ends_tail n due (next ∷ dues) some ends = ends

-- a surplus node
pub surplus : (p : Costs) (cs : List Choice) (number : ℕ) (node : TreeNode) (path : List Choice) (walk : Walk) → walk.count ≡ 0 → Stops p cs number node path walk (Shape number)
unfolding IsFaultFrom
surplus p cs number node path walk none [] is nodes = refl
surplus p cs number node path walk none (due ∷ dues) is nodes = let size = is.size in absurd (omega (arith, size, none))

-- a branch at a complete prefix
pub too_deep : (p : Costs) (cs : List Choice) (number : ℕ) (path : List Choice) (walk : Walk) → IsPath p path walk.depth → 0 < walk.count → length p.own ≤ walk.depth → Stops p cs number Branch path walk (Shape number)
unfolding IsFaultFrom
too_deep p cs number path walk good some deep [] is nodes = let size = is.size in absurd (omega (arith, size, some))
too_deep p cs number path walk good some deep (due ∷ dues) is nodes =
    let first : due.prefix ≡ take walk.depth path = (let d = is.due some in cc) in
    let long = length-take-le walk.depth path good.within in
    inl (rw first (omega (arith, long, deep)), refl)

-- a leaf that isn't sound
pub unsound : (p : Costs) (cs : List Choice) (number value : ℕ) (path : List Choice) (walk : Walk) → 0 < walk.count → walk.bound ≡ bound_of p (take walk.depth path) → (IsSound p cs (take walk.depth path) value → ⊥) → Stops p cs number (Leaf value) path walk (LeafFault number walk.bound)
unfolding IsFaultFrom
unsound p cs number value path walk some bound bad [] is nodes = let size = is.size in absurd (omega (arith, size, some))
unsound p cs number value path walk some bound bad (due ∷ dues) is nodes =
    let first : due.prefix ≡ take walk.depth path = (let d = is.due some in cc) in
    inl (rw first (bad, ap (LeafFault number) bound))

-- behind a sound leaf
pub past_goes : (p : Costs) (cs : List Choice) (number value : ℕ) (path path' : List Choice) (walk walk' : Walk) → 0 < walk.count → IsSound p cs (take walk.depth path) value → walk'.count + 1 ≡ walk.count → walk'.lowest ≡ walk.lowest → siblings p path walk.depth ≡ cond (ltb 0 walk'.depth) (take walk'.depth path' ∷ siblings p path' walk'.depth) [] → GoesOn p cs number (Leaf value) path walk path' walk'
unfolding IsFaultFrom ClosesAll
past_goes p cs number value path path' walk walk' some sound count lowest next [] is = let size = is.size in absurd (omega (arith, size, some))
past_goes p cs number value path path' walk walk' some sound count lowest next (due ∷ dues) is =
    let d = is.due some in
    let first : due.prefix ≡ take walk.depth path = cc in
    let others : prefixes dues ≡ siblings p path walk.depth = cc in
    let size = is.size in
    let left : walk'.count ≡ length dues = omega (arith, size, count) in
    let here : IsSound p cs due.prefix value = rw first sound in (
      dues,
      record {
        size = left;
        due = λ more. more_due (ltb 0 walk'.depth) (omega (arith, left, more)) (others ∙ next);
        above = rw lowest (All-tail (λ (due : Due). walk.lowest ≤ due.branch) due dues is.above);
        ends = λ more. rw lowest (ends_tail walk.lowest due dues (omega (arith, left, more)) (is.ends some));
      },
      (λ nodes fault h. inr (here, h)),
      (λ nodes h. (here.0, here.1, h)),
    )
  where
    more_due : (b : Bool) → 0 < length dues → prefixes dues ≡ cond b (take walk'.depth path' ∷ siblings p path' walk'.depth) [] → prefixes dues ≡ take walk'.depth path' ∷ siblings p path' walk'.depth
    more_due true more same = same
    more_due false more same = let none = ap length same ∙ refl in let long = length-map dues (λ (due : Due). due.prefix) in absurd (omega (arith, none, long, more))

-- from a branch to its first child
pub down_goes : (p : Costs) (cs : List Choice) (number : ℕ) (path : List Choice) (walk walk' : Walk) (c : Choice) → IsPath p path walk.depth → 0 < walk.count → walk.lowest ≤ number → walk.depth < length p.own → choices_from (row_of p walk.depth) 0 ≡ c ∷ choices_from (row_of p walk.depth) (place c + 1) → walk'.depth ≡ walk.depth + 1 → walk'.count + 1 ≡ walk.count + length (choices_from (row_of p walk.depth) 0) → walk'.lowest ≡ cond (eqb walk.count 1) number walk.lowest → GoesOn p cs number Branch path walk (set path walk.depth c) walk'
unfolding IsFaultFrom ClosesAll EndsAt
down_goes p cs number path walk walk' c good some below inside is deep count lowest [] was = let size = was.size in absurd (omega (arith, size, some))
down_goes p cs number path walk walk' c good some below inside is deep count lowest (due ∷ dues) was =
    let d = was.due some in
    let first : due.prefix ≡ take walk.depth path = cc in
    let others : prefixes dues ≡ siblings p path walk.depth = cc in
    let size = was.size in
    let long = length-take-le walk.depth path good.within in
    let within : length due.prefix < length p.own = rw first (omega (arith, long, inside)) in
    let same : children p due.prefix ≡ with_choices path walk.depth (choices_from (row_of p walk.depth) 0) = ap (children p) first ∙ children_is p path walk.depth good.within in
    let both = prefixes_both number (children p due.prefix) dues in
    let in_path : walk.depth < length path = (let s = good.size in omega (arith, s, inside)) in
    let now = placed p path walk.depth 0 c in_path is in
    let many : length (children p due.prefix) ≡ length (choices_from (row_of p walk.depth) 0) = ap length same ∙ length-map _ _ in
    let sum = length-append (children_of p number due.prefix) dues in
    let each = length-map (children p due.prefix) (as_due number) in (
      children_of p number due.prefix ++ dues,
      record {
        size = omega (arith, size, count, many, sum, each);
        due = λ more. both ∙ rw (same, others, deep) now;
        above = all_above (children p due.prefix) due dues walk'.lowest lowest size (was.above);
        ends = λ more. all_ends (children p due.prefix) due dues walk'.lowest lowest size (was.ends some) (rw (many, is) (omega arith));
      },
      (λ nodes fault h. inr (within, h)),
      (λ nodes h. (within, rw both at h)),
    )
  where
    all_above : (qs : List (List Choice)) (due : Due) (dues : List Due) (low : ℕ) → low ≡ cond (eqb walk.count 1) number walk.lowest → walk.count ≡ length (due ∷ dues) → All (λ (due : Due). walk.lowest ≤ due.branch) (due ∷ dues) → All (λ (due : Due). low ≤ due.branch) (map (as_due number) qs ++ dues)
    all_above qs due [] low is size above =
        let one : eqb walk.count 1 ≡ true = grind (arith, nat_tests) in
        let at : low ≡ number = rw one at is in
        All-append (λ (due : Due). low ≤ due.branch) (map (as_due number) qs) [] (all_of number low qs (omega (arith, at))) (All-nil (λ (due : Due). low ≤ due.branch))
    all_above qs due (next ∷ dues) low is size above =
        let many : eqb walk.count 1 ≡ false = grind (arith, nat_tests) in
        let at : low ≡ walk.lowest = rw many at is in
        All-append (λ (due : Due). low ≤ due.branch) (map (as_due number) qs) (next ∷ dues) (all_of number low qs (omega (arith, at, below))) (rw at (All-tail (λ (due : Due). walk.lowest ≤ due.branch) due (next ∷ dues) above))

    all_ends : (qs : List (List Choice)) (due : Due) (dues : List Due) (low : ℕ) → low ≡ cond (eqb walk.count 1) number walk.lowest → walk.count ≡ length (due ∷ dues) → EndsAt walk.lowest (due ∷ dues) → 0 < length qs → EndsAt low (map (as_due number) qs ++ dues)
    all_ends [] due dues low is size ends full = absurd (omega (arith, full))
    all_ends (q ∷ qs) due [] low is size ends full =
        let one : eqb walk.count 1 ≡ true = grind (arith, nat_tests) in
        let at : low ≡ number = rw one at is in
        subst (λ (n : ℕ). EndsAt n (map (as_due number) (q ∷ qs) ++ [])) (sym at) (ends_of number q qs)
    all_ends (q ∷ qs) due (next ∷ dues) low is size ends full =
        let many : eqb walk.count 1 ≡ false = grind (arith, nat_tests) in
        let at : low ≡ walk.lowest = rw many at is in
        subst (λ (n : ℕ). EndsAt n (map (as_due number) (q ∷ qs) ++ next ∷ dues)) (sym at) (ends_behind walk.lowest (map (as_due number) (q ∷ qs)) next dues ends)

-- at the end of the nodes
lowest_one : (n : ℕ) (dues : List Due) → EndsAt n dues → Any (λ (due : Due). due.branch ≡ n) dues
unfolding EndsAt
lowest_one n [] ends = absurd ends
lowest_one n (due ∷ []) ends = (0, due, omega arith, refl, ends)
lowest_one n (due ∷ next ∷ dues) ends =
    let rest = lowest_one n (next ∷ dues) ends in
    (suc rest.0, rest.1, (let within = rest.2 in omega (arith, within)), rest.3, rest.4)

pub lacking : (p : Costs) (cs : List Choice) (number : ℕ) (path : List Choice) (walk : Walk) (dues : List Due) → IsWalk p path walk dues → 0 < walk.count → IsFaultFrom p cs number dues [] (Shape walk.lowest)
unfolding IsFaultFrom
lacking p cs number path walk [] is some = let size = is.size in absurd (omega (arith, size, some))
lacking p cs number path walk (due ∷ dues) is some = (walk.lowest, refl, (lowest_one walk.lowest (due ∷ dues) (is.ends some), is.above))

pub all_done : (p : Costs) (cs : List Choice) (path : List Choice) (walk : Walk) (dues : List Due) → IsWalk p path walk dues → walk.count ≡ 0 → ClosesAll p cs (prefixes dues) []
unfolding ClosesAll
all_done p cs path walk [] is none = tt
all_done p cs path walk (due ∷ dues) is none = let size = is.size in absurd (omega (arith, size, none))

-- at the beginning
abbrev pub root : Due
root = record { branch = 0; prefix = [] }

pub starts : (p : Costs) (path : List Choice) (bound : ℕ) → IsWalk p path (record { depth = 0; count = 1; lowest = 0; bound = bound; parent = bound }) (root ∷ [])
unfolding EndsAt siblings
starts p path bound = record {
  size = refl;
  due = λ some. refl;
  above = All-cons (λ (due : Due). 0 ≤ due.branch) root [] (omega arith) (All-nil (λ (due : Due). 0 ≤ due.branch));
  ends = λ some. refl;
}

-- the walk after some nodes: what is left decides for the whole tree
pub record IsBehind (p : Costs) (cs : List Choice) (nodes : List TreeNode) (path : List Choice) (walk : Walk) (number : ℕ) : Type 0 where
  pub dues : List Due
  pub walks : IsWalk p path walk dues
  pub faults : (fault : TreeFault) → IsFaultFrom p cs number dues (drop number nodes) fault → IsFaultFrom p cs 0 (root ∷ []) nodes fault
  pub closes : ClosesAll p cs (prefixes dues) (drop number nodes) → ClosesAll p cs ([] ∷ []) nodes

pub behind_fault : (p : Costs) (cs : List Choice) (nodes : List TreeNode) (path : List Choice) (walk : Walk) (number : ℕ) (node d : TreeNode) (fault : TreeFault) → number < length nodes → node ≡ get_or nodes number d → IsBehind p cs nodes path walk number → Stops p cs number node path walk fault → IsFaultFrom p cs 0 (root ∷ []) nodes fault
behind_fault p cs nodes path walk number node d fault within is behind stops =
    let split : drop number nodes ≡ node ∷ drop (number + 1) nodes = drop_more nodes number d within ∙ ap (λ (n : TreeNode). n ∷ drop (number + 1) nodes) (sym is) in
    behind.faults fault (rw split (stops behind.dues behind.walks (drop (number + 1) nodes)))

pub behind_start : (p : Costs) (cs : List Choice) (nodes : List TreeNode) (path : List Choice) (bound : ℕ) → IsBehind p cs nodes path (record { depth = 0; count = 1; lowest = 0; bound = bound; parent = bound }) 0
behind_start p cs nodes path bound = record { dues = root ∷ []; walks = starts p path bound; faults = λ fault h. h; closes = λ h. h }

pub behind_closes : (p : Costs) (cs : List Choice) (nodes : List TreeNode) (path : List Choice) (walk : Walk) (number : ℕ) → length nodes ≤ number → walk.count ≡ 0 → IsBehind p cs nodes path walk number → ClosesAll p cs ([] ∷ []) nodes
behind_closes p cs nodes path walk number past none behind = behind.closes (rw (drop_all number nodes past) (all_done p cs path walk behind.dues behind.walks none))

pub behind_lacks : (p : Costs) (cs : List Choice) (nodes : List TreeNode) (path : List Choice) (walk : Walk) (number : ℕ) → length nodes ≤ number → 0 < walk.count → IsBehind p cs nodes path walk number → IsFaultFrom p cs 0 (root ∷ []) nodes (Shape walk.lowest)
behind_lacks p cs nodes path walk number past some behind = behind.faults (Shape walk.lowest) (rw (drop_all number nodes past) (lacking p cs number path walk behind.dues behind.walks some))

-- no tree with a fault closes
pub fault_refutes : (p : Costs) (cs : List Choice) (number : ℕ) (dues : List Due) (nodes : List TreeNode) (fault : TreeFault) → IsFaultFrom p cs number dues nodes fault → ClosesAll p cs (prefixes dues) nodes → ⊥
unfolding IsFaultFrom ClosesAll
fault_refutes p cs number [] [] fault is closes = is
fault_refutes p cs number [] (node ∷ nodes) fault is closes = closes
fault_refutes p cs number (due ∷ dues) [] fault is closes = closes
fault_refutes p cs number (due ∷ dues) (Branch ∷ nodes) fault (inl (deep, same)) closes = let inside = closes.0 in absurd (omega (arith, deep, inside))
fault_refutes p cs number (due ∷ dues) (Branch ∷ nodes) fault (inr (inside, later)) closes =
    fault_refutes p cs (number + 1) (children_of p number due.prefix ++ dues) nodes fault later (rw (prefixes_both number (children p due.prefix) dues) closes.1)
fault_refutes p cs number (due ∷ dues) (Leaf bound ∷ nodes) fault (inl (bad, same)) closes = bad (closes.0, closes.1)
fault_refutes p cs number (due ∷ dues) (Leaf bound ∷ nodes) fault (inr (sound, later)) closes = fault_refutes p cs (number + 1) dues nodes fault later closes.2
