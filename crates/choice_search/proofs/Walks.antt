-- The walk through an arena in preorder: each number is read once, and the nodes are a tree that shows the list.
use Rattle.std.proofs.Common.{◌≡◌, ◌≢◌, ℕ, zero, suc, ◌+◌, ◌-◌, ◌<◌, ◌≤◌, List, [], ◌∷◌, ◌++◌, length, take, drop, map, reverse, get_or, sym, ◌∙◌, ap, subst, refl, arith, append_assoc, length-append}
use Rattle.std.specs.List.{All, AllPairs, Contains, range_with_len}
use Rattle.std.proofs.lemmas.List.{reverse-append, reverse-reverse, map-append, drop_more, get_or-reverse, length-reverse}
use Rattle.std.proofs.lemmas.List.Elements.{All-nil, All-cons, All-head, All-tail, All-append, All-weaker}
use Rattle.std.proofs.lemmas.List.FromFn.{length-range_with_len, get_or-range_with_len}
use Rattle.std.proofs.lemmas.List.Kept.{AllPairs-cons}
use Rattle.choice_core.specs.declared.sharings.Choice.{Choice}
use Rattle.choice_core.specs.declared.problems.Costs.{Costs}
use Rattle.choice_core.specs.declared.trees.TreeNode.{TreeNode}
use Rattle.choice_core.specs.declared.trees.TreeNode.TheVariants.{Branch, Leaf}
use Rattle.choice_core.specs.Least.{ClosesAll, children}
use Rattle.choice_search.specs.declared.arenas.Node.{Node}
use Rattle.choice_search.specs.Answers.{BranchesOpen}
use Rattle.choice_search.specs.Arenas.{node_at, prefix_at, IsChildOf, IsSplit, IsArena, StandFor, HasBounds, IsShown}
use Rattle.choice_search.proofs.Lists.{differ_within}

reverse_cons : {X : Type 0} (x : X) (xs : List X) → reverse (x ∷ xs) ≡ reverse xs ++ x ∷ []
reverse_cons x xs = reverse-append (x ∷ []) xs

pub reverse_push : {X : Type 0} (xs : List X) (x : X) → reverse (xs ++ x ∷ []) ≡ x ∷ reverse xs
reverse_push xs x = reverse-append xs (x ∷ [])

-- one number lower on the stack
pub stack_more : (old items : List ℕ) (number m : ℕ) → 0 < number → number ≤ m → items ≡ old ++ reverse (range_with_len number (m - number)) → items ++ (number - 1) ∷ [] ≡ old ++ reverse (range_with_len (number - 1) (m - (number - 1)))
stack_more old items number m some within is =
    let count : m - (number - 1) ≡ suc (m - number) = omega (arith, some, within) in
    let next : number - 1 + 1 ≡ number = omega (arith, some) in
    rw count (ap (λ (xs : List ℕ). xs ++ (number - 1) ∷ []) is ∙ append_assoc old (reverse (range_with_len number (m - number))) ((number - 1) ∷ [])
    ∙ ap (λ (xs : List ℕ). old ++ xs) (ap (λ (n : ℕ). reverse (range_with_len n (m - number)) ++ (number - 1) ∷ []) (sym next) ∙ sym (reverse_cons (number - 1) (range_with_len (number - 1 + 1) (m - number)))))

-- the prefixes of numbers that follow one another
pub prefixes_from : (prefixes : List (List Choice)) (n first : ℕ) → first + n ≤ length prefixes → map (prefix_at prefixes) (range_with_len first n) ≡ take n (drop first prefixes)
prefixes_from prefixes zero first within = refl
prefixes_from prefixes (suc n) first within =
    let rest = prefixes_from prefixes n (first + 1) (omega (arith, within)) in
    rw (drop_more prefixes first [] (omega (arith, within))) (ap (λ (xs : List (List Choice)). prefix_at prefixes first ∷ xs) rest)

-- what is read, and what is on the stack
pub record IsWalked (nodes : List Node) (done stack : List ℕ) : Type 0 where
  pub differ : AllPairs (λ one two. one ≢ two) (stack ++ done)
  pub within : All (λ j. j < length nodes) (stack ++ done)
  pub parents : All (λ j. 0 < j → Contains done (node_at nodes j).parent) (stack ++ done)

all_left : {X : Type 0} (P : X → Type 0) (xs ys : List X) → All P (xs ++ ys) → All P xs
all_left P [] ys all = All-nil P
all_left P (x ∷ xs) ys all = All-cons P x xs (All-head P x (xs ++ ys) all) (all_left P xs ys (All-tail P x (xs ++ ys) all))

all_right : {X : Type 0} (P : X → Type 0) (xs ys : List X) → All P (xs ++ ys) → All P ys
all_right P [] ys all = all
all_right P (x ∷ xs) ys all = all_right P xs ys (All-tail P x (xs ++ ys) all)

module _ {X : Type 0} where
  abbrev Differ : List X → Type 0
  Differ xs = AllPairs (λ one two. one ≢ two) xs

  differ_head : (x : X) (xs : List X) → Differ (x ∷ xs) → All (λ y. x ≢ y) xs
  differ_head x xs differ k d within = differ 0 (suc k) d (omega arith) (omega (arith, within))

  differ_tail : (x : X) (xs : List X) → Differ (x ∷ xs) → Differ xs
  differ_tail x xs differ i j d before within = differ (suc i) (suc j) d (omega (arith, before)) (omega (arith, within))

  differ_both : (xs ys : List X) → Differ xs → Differ ys → All (λ x. All (λ y. x ≢ y) ys) xs → Differ (xs ++ ys)
  differ_both [] ys one two apart = two
  differ_both (x ∷ xs) ys one two apart =
      AllPairs-cons (λ a b. a ≢ b) x (xs ++ ys) (All-append (λ y. x ≢ y) xs ys (differ_head x xs one) (All-head (λ z. All (λ y. z ≢ y) ys) x xs apart))
      (differ_both xs ys (differ_tail x xs one) two (All-tail (λ z. All (λ y. z ≢ y) ys) x xs apart))

  -- more elements in the middle
  differ_between : (xs more ys : List X) → Differ (xs ++ ys) → Differ more → All (λ m. All (λ x. x ≢ m) (xs ++ ys)) more → Differ ((xs ++ more) ++ ys)
  differ_between [] more ys one two apart = differ_both more ys two one (All-weaker (λ m. All (λ x. x ≢ m) ys) (λ m. All (λ x. m ≢ x) ys) (λ m all. All-weaker (λ x. x ≢ m) (λ x. m ≢ x) (λ x ne is. ne (sym is)) ys all) more apart)
  differ_between (x ∷ xs) more ys one two apart =
      let first = differ_head x (xs ++ ys) one in
      AllPairs-cons (λ a b. a ≢ b) x ((xs ++ more) ++ ys)
      (All-append (λ y. x ≢ y) (xs ++ more) ys (All-append (λ y. x ≢ y) xs more (all_left (λ y. x ≢ y) xs ys first) (All-weaker (λ m. All (λ z. z ≢ m) (x ∷ xs ++ ys)) (λ m. x ≢ m) (λ m all. All-head (λ z. z ≢ m) x (xs ++ ys) all) more apart)) (all_right (λ y. x ≢ y) xs ys first))
      (differ_between xs more ys (differ_tail x (xs ++ ys) one) two (All-weaker (λ m. All (λ z. z ≢ m) (x ∷ xs ++ ys)) (λ m. All (λ z. z ≢ m) (xs ++ ys)) (λ m all. All-tail (λ z. z ≢ m) x (xs ++ ys) all) more apart))

all_between : {X : Type 0} (P : X → Type 0) (xs more ys : List X) → All P (xs ++ ys) → All P more → All P ((xs ++ more) ++ ys)
all_between P xs more ys all extra = All-append P (xs ++ more) ys (All-append P xs more (all_left P xs ys all) extra) (all_right P xs ys all)

not_twice : (rest : List ℕ) (i : ℕ) (done : List ℕ) → AllPairs (λ one two. one ≢ two) (rest ++ i ∷ done) → Contains done i → ⊥
not_twice [] i done differ (k, within, is) = differ_head i done differ k i within (sym is)
not_twice (x ∷ rest) i done differ there = not_twice rest i done (differ_tail x (rest ++ i ∷ done) differ) there

moved : (rest : List ℕ) (i : ℕ) (done : List ℕ) → (rest ++ i ∷ []) ++ done ≡ rest ++ i ∷ done
moved rest i done = append_assoc rest (i ∷ []) done

contains_later : (done : List ℕ) (i j : ℕ) → Contains done j → Contains (i ∷ done) j
contains_later done i j (k, within, is) = (suc k, omega (arith, within), is)

pub walk_start : (nodes : List Node) → 0 < length nodes → IsWalked nodes [] (0 ∷ [])
walk_start nodes some = record {
  differ = λ i j d before within. absurd (omega arith);
  within = All-cons (λ j. j < length nodes) 0 [] some (All-nil (λ j. j < length nodes));
  parents = All-cons (λ j. 0 < j → Contains [] (node_at nodes j).parent) 0 [] (λ none. absurd (omega arith)) (All-nil (λ j. 0 < j → Contains [] (node_at nodes j).parent));
}

pub walk_top : (nodes : List Node) (done rest : List ℕ) (i : ℕ) → IsWalked nodes done (rest ++ i ∷ []) → i < length nodes
walk_top nodes done rest i walked = All-head (λ j. j < length nodes) i done (all_right (λ j. j < length nodes) rest (i ∷ done) (subst (λ (xs : List ℕ). All (λ j. j < length nodes) xs) (moved rest i done) walked.within))

-- the top of the stack is read
pub walk_leaf : (nodes : List Node) (done rest : List ℕ) (i : ℕ) → IsWalked nodes done (rest ++ i ∷ []) → IsWalked nodes (i ∷ done) rest
walk_leaf nodes done rest i walked = record {
  differ = subst (λ (xs : List ℕ). AllPairs (λ one two. one ≢ two) xs) (moved rest i done) walked.differ;
  within = subst (λ (xs : List ℕ). All (λ j. j < length nodes) xs) (moved rest i done) walked.within;
  parents = subst (λ (xs : List ℕ). All (λ j. 0 < j → Contains (i ∷ done) (node_at nodes j).parent) xs) (moved rest i done)
      (All-weaker (λ j. 0 < j → Contains done (node_at nodes j).parent) (λ j. 0 < j → Contains (i ∷ done) (node_at nodes j).parent) (λ j there behind. contains_later done i (node_at nodes j).parent (there behind)) ((rest ++ i ∷ []) ++ done) walked.parents);
}

-- and its children, each once, are put there
pub walk_branch : (nodes : List Node) → IsArena nodes → (done rest : List ℕ) (i : ℕ) (more : List ℕ) → IsWalked nodes done (rest ++ i ∷ []) → i < length nodes → 0 < (node_at nodes i).count → AllPairs (λ one two. one ≢ two) more → All (λ k. IsChildOf (node_at nodes i) k) more → IsWalked nodes (i ∷ done) (rest ++ more)
walk_branch nodes arena done rest i more walked inside some differ kids = record {
  differ = differ_between rest more (i ∷ done) leaf.differ differ (All-weaker (λ k. IsChildOf (node_at nodes i) k) (λ k. All (λ x. x ≢ k) (rest ++ i ∷ done)) apart more kids);
  within = all_between (λ j. j < length nodes) rest more (i ∷ done) leaf.within (All-weaker (λ k. IsChildOf (node_at nodes i) k) (λ k. k < length nodes) below more kids);
  parents = all_between (λ j. 0 < j → Contains (i ∷ done) (node_at nodes j).parent) rest more (i ∷ done) leaf.parents (All-weaker (λ k. IsChildOf (node_at nodes i) k) (λ j. 0 < j → Contains (i ∷ done) (node_at nodes j).parent) (λ k child behind. (0, omega arith, sym (split.parents k child))) more kids);
}
  where
    leaf : IsWalked nodes (i ∷ done) rest
    leaf = walk_leaf nodes done rest i walked

    split : IsSplit nodes i
    split = arena.split i inside some

    below : (k : ℕ) → IsChildOf (node_at nodes i) k → k < length nodes
    below k child = let high = child.1 in let within = split.within in omega (arith, high, within)

    old : All (λ j. 0 < j → Contains done (node_at nodes j).parent) (rest ++ i ∷ done)
    old = subst (λ (xs : List ℕ). All (λ j. 0 < j → Contains done (node_at nodes j).parent) xs) (moved rest i done) walked.parents

    apart : (k : ℕ) → IsChildOf (node_at nodes i) k → All (λ x. x ≢ k) (rest ++ i ∷ done)
    apart k child j d within same =
        let low = child.0 in
        let after = split.after in
        let there = old j d within (omega (arith, same, low, after)) in
        not_twice rest i done leaf.differ (subst (λ (n : ℕ). Contains done n) (ap (λ (n : ℕ). (node_at nodes n).parent) same ∙ split.parents k child) there)

-- there are never more numbers than nodes
pub walk_short : (nodes : List Node) (done stack : List ℕ) → IsWalked nodes done stack → length stack + length done ≤ length nodes
walk_short nodes done stack walked =
    let few = differ_within (stack ++ done) (range_with_len 0 (length nodes)) walked.differ (All-weaker (λ j. j < length nodes) (Contains (range_with_len 0 (length nodes))) in_range (stack ++ done) walked.within) in
    omega (arith, few, length-append stack done, length-range_with_len 0 (length nodes))
  where
    in_range : (j : ℕ) → j < length nodes → Contains (range_with_len 0 (length nodes)) j
    in_range j within = (j, omega (arith, length-range_with_len 0 (length nodes), within), get_or-range_with_len 0 (length nodes) j j within ∙ omega arith)

-- the numbers of a node's children, as they are put onto the stack
kid_at : (first n k d : ℕ) → k < n → get_or (reverse (range_with_len first n)) k d ≡ first + (n - 1 - k)
kid_at first n k d within =
    let long = length-range_with_len first n in
    get_or-reverse (range_with_len first n) k d (omega (arith, long, within)) ∙ ap (λ (m : ℕ). get_or (range_with_len first n) (m - 1 - k) d) long ∙ get_or-range_with_len first n (n - 1 - k) d (omega (arith, within))

pub kids_differ : (first n : ℕ) → AllPairs (λ one two. one ≢ two) (reverse (range_with_len first n))
kids_differ first n i j d before within same =
    let long = length-reverse (range_with_len first n) in
    let size = length-range_with_len first n in
    let one = kid_at first n i d (omega (arith, before, within, long, size)) in
    let two = kid_at first n j d (omega (arith, within, long, size)) in
    omega (arith, one, two, same, before, within, long, size)

pub kids_are : (node : Node) → All (λ k. IsChildOf node k) (reverse (range_with_len node.first node.count))
kids_are node k d within =
    let long = length-reverse (range_with_len node.first node.count) in
    let size = length-range_with_len node.first node.count in
    let is = kid_at node.first node.count k d (omega (arith, within, long, size)) in
    (omega (arith, is), omega (arith, is, within, long, size))

-- whatever tree of the prefixes on the stack comes behind the list, all together is the tree of the empty prefix
abbrev pub Reads : List Node → List ℕ → List TreeNode → List ℕ → Type 0
Reads nodes leasts list stack = (p : Costs) (prefixes : List (List Choice)) (cs : List Choice) → StandFor p prefixes nodes → HasBounds p prefixes nodes leasts → IsShown p cs prefixes nodes → (more : List TreeNode) → ClosesAll p cs (map (prefix_at prefixes) (reverse stack)) more × BranchesOpen p cs (map (prefix_at prefixes) (reverse stack)) more → ClosesAll p cs ([] ∷ []) (list ++ more) × BranchesOpen p cs ([] ∷ []) (list ++ more)

pub reads_start : (nodes : List Node) (leasts : List ℕ) → Reads nodes leasts [] (0 ∷ [])
reads_start nodes leasts p prefixes cs stand bounds shown more both = subst (λ (q : List Choice). ClosesAll p cs (q ∷ []) more × BranchesOpen p cs (q ∷ []) more) stand.root both

pub reads_leaf : (nodes : List Node) (leasts : List ℕ) (list : List TreeNode) (rest : List ℕ) (i : ℕ) → Reads nodes leasts list (rest ++ i ∷ []) → i < length nodes → (node_at nodes i).count ≡ 0 → Reads nodes leasts (list ++ Leaf (get_or leasts i 0) ∷ []) rest
unfolding ClosesAll BranchesOpen
reads_leaf nodes leasts list rest i reads inside waits p prefixes cs stand bounds shown more both =
    let next = reads p prefixes cs stand bounds shown (Leaf (get_or leasts i 0) ∷ more) in
    let top = reverse_push rest i in
    let all = append_assoc list (Leaf (get_or leasts i 0) ∷ []) more in
    rw all (next (rw top ((bounds i inside waits, shown.closed i inside waits, both.0), both.1)))

pub reads_branch : (nodes : List Node) (leasts : List ℕ) (list : List TreeNode) (rest : List ℕ) (i : ℕ) → IsArena nodes → Reads nodes leasts list (rest ++ i ∷ []) → i < length nodes → 0 < (node_at nodes i).count → Reads nodes leasts (list ++ Branch ∷ []) (rest ++ reverse (range_with_len (node_at nodes i).first (node_at nodes i).count))
unfolding ClosesAll BranchesOpen
reads_branch nodes leasts list rest i arena reads inside some p prefixes cs stand bounds shown more both =
    let next = reads p prefixes cs stand bounds shown (Branch ∷ more) in
    let top = reverse_push rest i in
    let all = append_assoc list (Branch ∷ []) more in
    let kids = range_with_len (node_at nodes i).first (node_at nodes i).count in
    let has = stand.split i inside some in
    let within = (arena.split i inside some).within in
    let same = stand.size in
    let stacked : map (prefix_at prefixes) (reverse (rest ++ reverse kids)) ≡ children p (prefix_at prefixes i) ++ map (prefix_at prefixes) (reverse rest) =
    ap (map (prefix_at prefixes)) (reverse-append rest (reverse kids) ∙ ap (λ (xs : List ℕ). xs ++ reverse rest) (reverse-reverse kids))
    ∙ map-append (prefix_at prefixes) kids (reverse rest)
    ∙ ap (λ (xs : List (List Choice)). xs ++ map (prefix_at prefixes) (reverse rest)) (prefixes_from prefixes (node_at nodes i).count (node_at nodes i).first (omega (arith, within, same)) ∙ has.children) in
    let here = subst (λ (xs : List (List Choice)). ClosesAll p cs xs more × BranchesOpen p cs xs more) stacked both in
    rw all (next (rw top ((has.short, here.0), (shown.unclosed i inside some, here.1))))
