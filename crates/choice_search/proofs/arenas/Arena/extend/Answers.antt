use Rattle.std.proofs.Common.{◌≡◌, ℕ, ◌+◌, ◌<◌, List, [], ◌∷◌, ◌++◌, Option, None, Some, cond, option_map, map, refl, length, take, get_or, sym, ◌∙◌, ap, arith, length-take-le}
use Rattle.std.specs.Option.{is_some}
use Rattle.std.proofs.lemmas.List.{take_all}
use Rattle.choice_core.specs.declared.sharings.Choice.{Choice}
use Rattle.choice_core.specs.declared.sharings.Choice.TheVariants.{A, Y, C, S}
use Rattle.choice_core.specs.Problems.{Row, own_of}
use Rattle.choice_core.specs.Bound.{bound_of}
use Rattle.choice_core.specs.declared.problems.Costs.{Costs}
use Rattle.choice_search.specs.declared.arenas.Node.{Node}
use Rattle.choice_search.specs.Arenas.{allowed_of, choices_at, listed, with_children, with_bounds}
use Rattle.choice_search.proofs.Lists.{push_kept}
use Rattle.choice_search.proofs.arenas.Arena.extend.Goals as goal

abbrev all : List Choice
all = A ∷ Y ∷ C ∷ S ∷ []

abbrev child_of : ℕ → Choice → Node
child_of number c = record { parent = number; choice = c; first = 0; count = 0 }

children_more : (nodes now new : List Node) (number : ℕ) (row : Row) (i : ℕ) → i < length all → now ≡ with_children nodes number (allowed_of row (take i all)) → new ≡ with_children now number (allowed_of row (get_or all i A ∷ [])) → new ≡ with_children nodes number (allowed_of row (take (i + 1) all))
children_more nodes now new number row i within is next =
    next ∙ ap (λ (ns : List Node). with_children ns number (allowed_of row (get_or all i A ∷ []))) is ∙ push_kept (child_of number) (λ c. is_some (own_of row c)) all A i nodes within

bounds_more : (p : Costs) (leasts now new : List ℕ) (q : List Choice) (row : Row) (i : ℕ) → i < length all → now ≡ with_bounds p leasts q (allowed_of row (take i all)) → new ≡ with_bounds p now q (allowed_of row (get_or all i A ∷ [])) → new ≡ with_bounds p leasts q (allowed_of row (take (i + 1) all))
bounds_more p leasts now new q row i within is next =
    next ∙ ap (λ (ns : List ℕ). with_bounds p ns q (allowed_of row (get_or all i A ∷ []))) is ∙ push_kept (λ c. bound_of p (q ++ c ∷ [])) (λ c. is_some (own_of row c)) all A i leasts within

-- one choice of a row, by what there is of it
one_node : (row : Row) (bound : Option ℕ) (f : ℕ → ℕ) (c : Choice) → bound ≡ option_map f (own_of row c) → cond (is_some bound) (c ∷ []) [] ≡ allowed_of row (c ∷ [])
one_node row bound f c is = by_own (own_of row c) is
  where
    by_own : (own : Option ℕ) → bound ≡ option_map f own → cond (is_some bound) (c ∷ []) [] ≡ cond (is_some own) (c ∷ []) []
    by_own None is = rw is refl
    by_own (Some n) is = rw is refl

one_bound : (leasts : List ℕ) (row : Row) (bound : Option ℕ) (f : Choice → ℕ) (c : Choice) → bound ≡ option_map (λ _. f c) (own_of row c) → leasts ++ listed bound ≡ leasts ++ map f (allowed_of row (c ∷ []))
one_bound leasts row bound f c is = ap (λ (ns : List ℕ). leasts ++ ns) (by_own (own_of row c) is)
  where
    by_own : (own : Option ℕ) → bound ≡ option_map (λ _. f c) own → listed bound ≡ map f (cond (is_some own) (c ∷ []) [])
    by_own None is = rw is refl
    by_own (Some n) is = rw is refl

pub loop-choice-preserved : goal.loop-choice-preserved
loop-choice-preserved c =
    let i = c.loop-choice.invariant in
    let p = c.args.problem.now in
    let q = take c.args.found.depth c.args.path.now in
    let row = get_or p.own c.args.found.depth [] in
    let n = c.loop-choice.choice-index in
    let choice = get_or all n A in
    let ok = c.in_ok-extend_by.ensures in
    let bound : get_or c.bounds_after-bounds.result c.place.result None ≡ option_map (λ _. bound_of p (q ++ choice ∷ [])) (own_of row choice) =
    ap (λ (k : ℕ). get_or c.bounds_after-bounds.result k None) c.place.ensures.is ∙ c.bounds_after-bounds.ensures choice in
    let nodes = ok.nodes ∙ ap (with_children c.loop-choice.self.nodes.items c.args.found.number) (one_node row _ (λ _. bound_of p (q ++ choice ∷ [])) choice bound) in
    let leasts = ok.leasts ∙ one_bound c.loop-choice.self.leasts.items row _ (λ d. bound_of p (q ++ d ∷ [])) choice bound in (
      children_more c.args.self.now.nodes.items c.loop-choice.self.nodes.items c.extend_by.new.self.nodes.items c.args.found.number row n c.loop-choice-test.true i.0 nodes,
      bounds_more p c.args.self.now.leasts.items c.loop-choice.self.leasts.items c.extend_by.new.self.leasts.items q row n c.loop-choice-test.true i.1 leasts,
    )

row_there : (p : Costs) (path : List Choice) (depth : ℕ) → length path ≡ length p.own → depth < length p.own → choices_at p (take depth path) ≡ allowed_of (get_or p.own depth []) all
unfolding choices_at
row_there p path depth size short = ap (λ (i : ℕ). allowed_of (get_or p.own i []) all) (length-take-le depth path (omega (arith, size, short)))

pub returns-clause-nodes : goal.returns-clause-nodes
returns-clause-nodes c =
    let p = c.args.problem.now in
    let row = get_or p.own c.args.found.depth [] in
    let whole = take_all c.loop-choice.choice-index all c.loop-choice-test.false in
    c.loop-choice.invariant.0 ∙ ap (with_children c.args.self.now.nodes.items c.args.found.number) (ap (allowed_of row) whole ∙ sym (row_there p c.args.path.now c.args.found.depth c.requires.size c.requires.short))

pub returns-clause-leasts : goal.returns-clause-leasts
returns-clause-leasts c =
    let p = c.args.problem.now in
    let row = get_or p.own c.args.found.depth [] in
    let whole = take_all c.loop-choice.choice-index all c.loop-choice-test.false in
    c.loop-choice.invariant.1 ∙ ap (with_bounds p c.args.self.now.leasts.items (take c.args.found.depth c.args.path.now)) (ap (allowed_of row) whole ∙ sym (row_there p c.args.path.now c.args.found.depth c.requires.size c.requires.short))
