use Rattle.std.proofs.Common.{◌≡◌, ℕ, ◌+◌, ◌-◌, ◌<◌, suc, List, [], ◌∷◌, ◌++◌, length, reverse, get_or, refl, sym, ◌∙◌, ap, subst, inl, inr, arith}
use Rattle.std.specs.List.{range_with_len}
use Rattle.std.proofs.lemmas.Bool.{cases_eq}
use Rattle.std.proofs.lemmas.List.{length_push, append-nil, nil_from_length}
use Rattle.choice_core.specs.declared.trees.TreeNode.{TreeNode}
use Rattle.choice_core.specs.declared.trees.TreeNode.TheVariants.{Branch, Leaf}
use Rattle.choice_core.specs.Least.{ClosesAll}
use Rattle.choice_search.specs.Answers.{BranchesOpen}
use Rattle.choice_search.specs.declared.arenas.Node.{Node}
use Rattle.choice_search.specs.Arenas.{node_at, IsArena}
use Rattle.choice_search.proofs.Walks.{IsWalked, Reads, walk_start, walk_top, walk_leaf, walk_branch, walk_short, kids_differ, kids_are, reads_start, reads_leaf, reads_branch}
use Rattle.choice_search.proofs.trees.tree_of.Goals as goal

-- where the walk stands
abbrev Stands : List Node → List ℕ → List TreeNode → List ℕ → Type 0
Stands nodes leasts list stack = Reads nodes leasts list stack × ((done : List ℕ) × (length done ≡ length list) × IsWalked nodes done stack)

inside : (nodes : List Node) (leasts : List ℕ) (list : List TreeNode) (stack rest : List ℕ) (i : ℕ) → stack ≡ rest ++ i ∷ [] → Stands nodes leasts list stack → i < length nodes
inside nodes leasts list stack rest i is stands = walk_top nodes stands.1.0 rest i (subst (λ (xs : List ℕ). IsWalked nodes stands.1.0 xs) is stands.1.2)

-- one node more
read_on : (nodes : List Node) (leasts : List ℕ) → IsArena nodes → (list list' : List TreeNode) (stack rest stack' : List ℕ) (i : ℕ) → stack ≡ rest ++ i ∷ [] → Stands nodes leasts list stack → ((node_at nodes i).count ≡ 0 → (list' ≡ list ++ Leaf (get_or leasts i 0) ∷ []) × (stack' ≡ rest)) → (0 < (node_at nodes i).count → (list' ≡ list ++ Branch ∷ []) × (stack' ≡ rest ++ reverse (range_with_len (node_at nodes i).first (node_at nodes i).count))) → Stands nodes leasts list' stack' × (length list < length nodes) × (length list' ≡ length list + 1)
read_on nodes leasts arena list list' stack rest stack' i is stands leaf branch = elim (cases_eq (node_at nodes i).count 0) [
  | inl none ↦ (
      let new = leaf none in (
        rw (new.0, new.1) (reads_leaf nodes leasts list rest i reads within none, (i ∷ done, ap suc long ∙ sym (length_push list (Leaf (get_or leasts i 0)) ∙ omega arith), walk_leaf nodes done rest i walked)),
        room,
        ap length (new.0) ∙ length_push list (Leaf (get_or leasts i 0)),
      ))
  | inr some ↦ (
      let more : 0 < (node_at nodes i).count = omega (arith, some) in
      let new = branch more in
      let kids = reverse (range_with_len (node_at nodes i).first (node_at nodes i).count) in (
        rw (new.0, new.1) (reads_branch nodes leasts list rest i arena reads within more, (i ∷ done, ap suc long ∙ sym (length_push list Branch ∙ omega arith), walk_branch nodes arena done rest i kids walked within more (kids_differ (node_at nodes i).first (node_at nodes i).count) (kids_are (node_at nodes i)))),
        room,
        ap length (new.0) ∙ length_push list Branch,
      ))
]
  where
    done : List ℕ
    done = stands.1.0

    long : length done ≡ length list
    long = stands.1.1

    reads : Reads nodes leasts list (rest ++ i ∷ [])
    reads = subst (λ (xs : List ℕ). Reads nodes leasts list xs) is stands.0

    walked : IsWalked nodes done (rest ++ i ∷ [])
    walked = subst (λ (xs : List ℕ). IsWalked nodes done xs) is stands.1.2

    within : i < length nodes
    within = walk_top nodes done rest i walked

    room : length list < length nodes
    room = let short = walk_short nodes done (rest ++ i ∷ []) walked in let size = length_push rest i in omega (arith, short, size, long)

pub loop-number-init : goal.loop-number-init
loop-number-init c = rw (c.in_ok-push.ensures.items, c.new-stack.ensures.items, c.new-list.ensures.items) (reads_start c.args.nodes.now c.args.leasts.now, ([], refl, walk_start c.args.nodes.now c.requires.arena.some))

pub bounds-nodes-number : goal.bounds-nodes-number
bounds-nodes-number c = inside c.args.nodes.now c.args.leasts.now c.loop-number.list.items c.loop-number.stack.items c.pop.new.self.items c.in-Some.number c.in-Some.ensures.items c.loop-number.invariant

pub bounds-leasts-number : goal.bounds-leasts-number
bounds-leasts-number c =
    let within = inside c.args.nodes.now c.args.leasts.now c.loop-number.list.items c.loop-number.stack.items c.pop.new.self.items c.in-Some.number c.in-Some.ensures.items c.loop-number.invariant in
    omega (arith, within, c.requires.size)

pub visit-requires : goal.visit-requires
visit-requires c = λ some. (
    let within = inside c.args.nodes.now c.args.leasts.now c.loop-number.list.items c.loop-number.stack.items c.pop.new.self.items c.in-Some.number c.in-Some.ensures.items c.loop-number.invariant in
    let split = c.requires.arena.split c.in-Some.number within some in
    let high = split.within in
    let few = c.requires.few in
    omega (arith, high, few))

pub loop-number-smaller : goal.loop-number-smaller
loop-number-smaller c =
    let on = read_on c.args.nodes.now c.args.leasts.now c.requires.arena c.loop-number.list.items c.visit.new.list.items c.loop-number.stack.items c.pop.new.self.items c.visit.new.stack.items c.in-Some.number c.in-Some.ensures.items c.loop-number.invariant c.in_ok-visit.ensures.leaf c.in_ok-visit.ensures.branch in
    let room = on.1 in
    let size = on.2 in
    let h : length c.args.nodes.now - length c.visit.new.list.items < length c.args.nodes.now - length c.loop-number.list.items = omega (arith, room, size) in h

pub loop-number-preserved : goal.loop-number-preserved
loop-number-preserved c =
    (read_on c.args.nodes.now c.args.leasts.now c.requires.arena c.loop-number.list.items c.visit.new.list.items c.loop-number.stack.items c.pop.new.self.items c.visit.new.stack.items c.in-Some.number c.in-Some.ensures.items c.loop-number.invariant c.in_ok-visit.ensures.leaf c.in_ok-visit.ensures.branch).0

pub returns-clause-tree : goal.returns-clause-tree
unfolding ClosesAll BranchesOpen
returns-clause-tree c = λ p prefixes cs stand bounds shown. (
    let empty = c.in_default.ensures.cases in
    let none : c.loop-number.stack.items ≡ [] = nil_from_length c.loop-number.stack.items (omega (arith, empty, c.loop-number.stack.ok)) in
    let all = c.loop-number.invariant.0 p prefixes cs stand bounds shown [] (rw none (tt, tt)) in
    rw (c.new.ensures, ← append-nil c.loop-number.list.items) all)

pub returns-clause-size : goal.returns-clause-size
returns-clause-size c =
    let i = c.loop-number.invariant.1 in
    let short = walk_short c.args.nodes.now i.0 c.loop-number.stack.items i.2 in
    let long = i.1 in
    rw c.new.ensures (omega (arith, short, long))
