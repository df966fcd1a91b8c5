-- Sums over the modules of a cut, and cuts into one layer.
use Rattle.std.proofs.Common.{◌≡◌, ◌⊎◌, inl, inr, ℕ, ◌+◌, ◌-◌, ◌<◌, ◌≤◌, Bool, true, false, cond, eqb, List, [], ◌∷◌, ◌++◌, Option, filter, if◌then◌else◌, length, map, refl, ap, arith}
use Rattle.std.specs.List.{filter_map, list_any, sum_by}
use Rattle.std.proofs.lemmas.List.{append-nil, length-map}
use Rattle.std.proofs.lemmas.List.FromFn.{length-range_with_len}
use Rattle.std.proofs.lemmas.List.Sums.{sum_by-cons}
use Rattle.word_graph.specs.declared.entry.Entry.{Entry}
use Rattle.word_graph.specs.declared.entry.Node.{Node}
use Rattle.word_graph.specs.Shape.{IsGraph}
use Rattle.word_graph.specs.Size.{graph_size, size_at}
use Rattle.word_graph.proofs.SizeLaws.{graph_size-sum}
use Rattle.module_split.specs.declared.module.Module.{Module}
use Rattle.module_split.specs.declared.homes.Group.{Group}
use Rattle.module_split.specs.declared.homes.Home.{Home}
use Rattle.module_split.specs.Homes.{group_of, groups_of, homes_of}
use Rattle.module_split.specs.Cut.{below, cut_of, different_after, group_in, module_of, numbers_of, order_of, same_group}
use Rattle.module_split.specs.Modules.{is_inner}
use Rattle.module_split.proofs.ModuleLaws.{ArePartition-of}

-- ---- sums

sum-filter : (f : ℕ → ℕ) (p : ℕ → Bool) (ks : List ℕ) → sum_by f (filter p ks) ≤ sum_by f ks
sum-filter f p [] = omega arith
sum-filter f p (k ∷ ks) = by (p k) (sum-filter f p ks)
  where
    by : (b : Bool) → sum_by f (filter p ks) ≤ sum_by f ks → sum_by f (cond b (k ∷ filter p ks) (filter p ks)) ≤ sum_by f (k ∷ ks)
    by true rest = omega (arith, rest, sum_by-cons f k (filter p ks), sum_by-cons f k ks)
    by false rest = omega (arith, rest, sum_by-cons f k ks)

sum-ones : (ks : List ℕ) → sum_by (λ k. 1) ks ≡ length ks
sum-ones [] = refl
sum-ones (k ∷ ks) = omega (arith, sum_by-cons (λ (j : ℕ). 1) k ks, sum-ones ks)

sum-nodes : (list : List Module) → sum_by (λ (part : Module). length part.nodes) list ≡ sum_by (λ (part : Module). sum_by (λ k. 1) part.nodes) list
sum-nodes [] = refl
sum-nodes (part ∷ list) =
    omega (arith, sum_by-cons (λ (p : Module). length p.nodes) part list, sum_by-cons (λ (p : Module). sum_by (λ k. 1) p.nodes) part list, sum-ones part.nodes, sum-nodes list)

-- all modules together are no larger than the graph
pub sizes-of : (es : List Entry) (results : List Node) (layers : ℕ) → IsGraph es → 0 < layers → sum_by (λ (part : Module). sum_by (size_at es) part.nodes) (cut_of es results layers).list ≤ graph_size es
sizes-of es results layers graph some =
    omega (arith, (ArePartition-of es results layers graph some).sums (size_at es), sum-filter (size_at es) (is_inner es) (below (length es)), graph_size-sum es graph)

-- and have no more nodes
pub nodes-of : (es : List Entry) (results : List Node) (layers : ℕ) → IsGraph es → 0 < layers → sum_by (λ (part : Module). length part.nodes) (cut_of es results layers).list ≤ length es
nodes-of es results layers graph some =
    omega (arith, sum-nodes (cut_of es results layers).list, (ArePartition-of es results layers graph some).sums (λ k. 1), sum-filter (λ k. 1) (is_inner es) (below (length es)), sum-ones (below (length es)), length-range_with_len 0 (length es))

-- ---- one layer

-- the group of every node, where there is one layer
abbrev pub only_group : Group
only_group = record { ring = false; layer = 0; region = 0 }

-- no other group is in the list
abbrev pub AreOnly : List Group → Type 0
AreOnly [] = Unit {0}
AreOnly (g ∷ gs) = (g ≡ only_group) × AreOnly gs

-- there is none before, or that one
abbrev pub IsStart : List Group → Type 0
IsStart before = (before ≡ []) ⊎ (before ≡ only_group ∷ [])

one-different : (before gs : List Group) → IsStart before → AreOnly gs → length (different_after before gs) ≤ 1
unfolding different_after
one-different before [] (inl none) only = omega (arith, ap length none)
one-different before [] (inr one) only = omega (arith, ap length one)
one-different before (g ∷ gs) start (is, only) = one-different (if list_any (same_group g) before then before else before ++ g ∷ []) gs (next start) only
  where
    next : IsStart before → IsStart (if list_any (same_group g) before then before else before ++ g ∷ [])
    next (inl none) = inr (rw (none, is) refl)
    next (inr one) = inr (rw (one, is) refl)

home-only : (homes : List Home) → AreOnly (filter_map (group_in 0) (map (group_of 1) homes))
home-only [] = tt
home-only (Home.Input ∷ homes) = home-only homes
home-only (Home.Constant ∷ homes) = home-only homes
home-only (Home.Inside g ∷ homes) = by (eqb g.layer 0) refl (home-only homes)
  where
    lowest : (n : ℕ) → eqb n 0 ≡ true → n ≡ 0
    lowest n e = grind arith

    by : (b : Bool) → eqb g.layer 0 ≡ b → AreOnly (filter_map (group_in 0) (map (group_of 1) homes)) → AreOnly (filter_map (group_in 0) (map (group_of 1) (Home.Inside g ∷ homes)))
    by true e rest = let is : g.layer ≡ 0 = lowest g.layer e in rw (e, is) (refl, rest)
    by false e rest = rw (e) (rw (e) rest)

pub one-layer : (es : List Entry) (results : List Node) → length (cut_of es results 1).list ≤ 1
one-layer es results =
    let groups : List (Option Group) = groups_of 1 es in
    let few : length (order_of 1 groups) ≤ 1 = one-different [] (filter_map (group_in 0) groups ++ []) (inl refl) (rw append-nil (home-only (homes_of 1 es))) in
    omega (arith, few, length-map (below (length (order_of 1 groups))) (module_of es (homes_of 1 es) (order_of 1 groups) (numbers_of (order_of 1 groups) groups) results), length-range_with_len 0 (length (order_of 1 groups)))
