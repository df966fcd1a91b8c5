use Rattle.std.proofs.Common.{◌≡◌, ℕ, ◌^◌, ◌≤◌, List, [], ◌∷◌, ◌++◌, length, take, drop, sym, ◌∙◌, ap, refl, arith}
use Rattle.std.proofs.lemmas.List.{take_at, take_all}
use Rattle.choice_core.specs.declared.sharings.Choice.{Choice}
use Rattle.choice_core.specs.declared.problems.Costs.{Costs}
use Rattle.choice_core.specs.declared.trees.TreeNode.{TreeNode}
use Rattle.choice_core.specs.Problems.{IsProblem}
use Rattle.choice_core.specs.Least.{IsLeast, Closes}
use Rattle.choice_search.specs.declared.arenas.Node.{Node}
use Rattle.choice_search.specs.Answers.{BranchesOpen, HasFewOpen}
use Rattle.choice_search.specs.Arenas.{prefix_at, StandFor, HasBounds, IsShown}
use Rattle.choice_search.specs.Searched.{IsSearched, IsAt}
use Rattle.choice_search.proofs.Opens.{nothing_split, found_at, first_least, whole_shown, whole_few, many_open}
use Rattle.choice_search.proofs.Few.{many_modules}
use Rattle.choice_search.proofs.searches.best.Goals as goal

-- what is written through the whole slice is what stands there
written : (len : ℕ) (new old : List Choice) → length new ≡ length old → length old ≡ len → take len (new ++ drop (length new) old) ≡ new
written len new old size whole = take_at new (drop (length new) old) len (omega (arith, size, whole))

-- a complete list that was found, with its tree
record IsFound (p : Costs) (list : List Choice) (tree : List TreeNode) : Type 0 where
  least : IsLeast p list
  closes : Closes p list tree
  branches : BranchesOpen p list ([] ∷ []) tree
  few : HasFewOpen p list

found : (p : Costs) → IsProblem p → (prefixes popped : List (List Choice)) (nodes nodes' : List Node) (leasts leasts' : List ℕ) (path list : List Choice) (depth i : ℕ) (tree : List TreeNode) → IsSearched p prefixes popped nodes leasts → IsAt p prefixes popped nodes leasts (take depth path) i → nodes' ≡ nodes → leasts' ≡ leasts → list ≡ path → length path ≡ length p.own → depth ≡ length p.own → length popped ≤ 2 ^ 18 → ((p : Costs) (prefixes : List (List Choice)) (cs : List Choice) → StandFor p prefixes nodes' → HasBounds p prefixes nodes' leasts' → IsShown p cs prefixes nodes' → Closes p cs tree × BranchesOpen p cs ([] ∷ []) tree) → IsFound p list tree
found p problem prefixes popped nodes nodes' leasts leasts' path list depth i tree searched at same same' is size whole few shows = record {
  least = rw list_is (first_least p problem prefixes nodes leasts searched.search i at.first long);
  closes = rw list_is shown.0;
  branches = rw list_is shown.1;
  few = rw list_is (whole_few p problem prefixes popped nodes leasts searched i at.first long few);
}
  where
    path_is : path ≡ prefix_at prefixes i
    path_is = sym (take_all depth path (omega (arith, size, whole))) ∙ at.is

    list_is : list ≡ prefix_at prefixes i
    list_is = is ∙ path_is

    long : length (prefix_at prefixes i) ≡ length p.own
    long = sym (ap length path_is) ∙ size

    shown : Closes p (prefix_at prefixes i) tree × BranchesOpen p (prefix_at prefixes i) ([] ∷ []) tree
    shown = shows p prefixes (prefix_at prefixes i) (rw same searched.search.stand) (rw (same, same') searched.search.bounds) (rw same (whole_shown p problem prefixes popped nodes leasts searched i at.first long))

pub loop-init : goal.loop-init
loop-init c = ([] ∷ [], [], nothing_split c.args.problem.now c.in_ok-arena.arena.nodes.items c.in_ok-arena.arena.leasts.items c.in_ok-arena.ensures, refl, (let count = ap length c.own-count.ensures in let size = c.in_ok-choices.ensures.len in omega (arith, count, size, c.in_ok-choices.choices.ok)))

pub returns-then-found-count : goal.returns-then-found-count
returns-then-found-count c =
    let p = c.args.problem.now in
    let i = c.loop.invariant in
    let at = found_at p i.0 i.1 c.loop.arena.nodes.items c.as_slice-nodes.result.now c.loop.arena.leasts.items c.as_slice.result.now c.find-found.new.path c.find-found.result.depth c.find-found.result.number i.2 c.as_slice-nodes.ensures.value c.as_slice.ensures.value c.find-found.ensures.first in
    let kept = c.find-found.auto.path ∙ ap length c.as_mut_slice-path.ensures.value in
    let list = c.new-then-found-count.ensures ∙ written c.loop.choices.len c.find-found.new.path c.loop.choices.items kept (sym c.loop.choices.ok.0) in
    let test = c.loop-test.true in
    let turns = i.3 in
    let answer = found p c.requires i.0 i.1 c.loop.arena.nodes.items c.as_slice-nodes.result.now c.loop.arena.leasts.items c.as_slice-then-found-count.result.now c.find-found.new.path c.new-then-found-count.result c.find-found.result.depth c.find-found.result.number c.in_ok-tree.tree.nodes i.2 at c.as_slice-nodes.ensures.value c.as_slice-then-found-count.ensures.value list (kept ∙ i.4) (c.if-found-count.true ∙ ap length c.own-count.ensures) (omega (arith, test, turns)) c.in_ok-tree.ensures.tree in
    record {
      least = answer.least;
      closes = answer.closes;
      branches = answer.branches;
      few = answer.few;
      size = (let short = c.in_ok-tree.ensures.size in let nodes = ap length c.as_slice-nodes.ensures.value in let few = i.2.size in omega (arith, short, nodes, few, turns, test));
      limit = tt;
      large = tt;
    }

pub advance-requires-clause-stands : goal.advance-requires-clause-stands
advance-requires-clause-stands c =
    let p = c.args.problem.now in
    let i = c.loop.invariant in
    (i.0, i.1, found_at p i.0 i.1 c.loop.arena.nodes.items c.as_slice-nodes.result.now c.loop.arena.leasts.items c.as_slice.result.now c.find-found.new.path c.find-found.result.depth c.find-found.result.number i.2 c.as_slice-nodes.ensures.value c.as_slice.ensures.value c.find-found.ensures.first)

pub loop-preserved : goal.loop-preserved
loop-preserved c =
    let p = c.args.problem.now in
    let i = c.loop.invariant in
    let at = found_at p i.0 i.1 c.loop.arena.nodes.items c.as_slice-nodes.result.now c.loop.arena.leasts.items c.as_slice.result.now c.find-found.new.path c.find-found.result.depth c.find-found.result.number i.2 c.as_slice-nodes.ensures.value c.as_slice.ensures.value c.find-found.ensures.first in
    let more = c.in_ok-advance.ensures.searched i.0 i.1 at in
    let turns = i.3 in
    let kept = c.find-found.auto.path ∙ ap length c.as_mut_slice-path.ensures.value in
    let same = written c.loop.choices.len c.advance.new.path c.loop.choices.items (c.advance.auto.path ∙ kept) (sym c.loop.choices.ok.0) in
    (more.0, prefix_at i.0 c.find-found.result.number ∷ i.1, more.1, omega (arith, turns), ap length same ∙ c.advance.auto.path ∙ kept ∙ i.4)

pub returns-clause-limit : goal.returns-clause-limit
returns-clause-limit c = λ is. (
    let i = c.loop.invariant in
    let past = c.loop-test.false in
    let many = i.3 in
    many_open c.args.problem.now c.requires i.0 i.1 c.loop.arena.nodes.items c.loop.arena.leasts.items i.2 (omega (arith, past, many)))

pub returns-clause-large : goal.returns-clause-large
returns-clause-large c = λ is. (
    let i = c.loop.invariant in
    let past = c.loop-test.false in
    let many = i.3 in
    let open_ = many_open c.args.problem.now c.requires i.0 i.1 c.loop.arena.nodes.items c.loop.arena.leasts.items i.2 (omega (arith, past, many)) in
    many_modules c.args.problem.now open_.0 open_.2)
