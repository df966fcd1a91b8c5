use Rattle.std.proofs.Common.{◌≡◌, ℕ, ◌<◌, List, ◌∷◌, ◌++◌, length, take, drop, sym, ◌∙◌, ap, subst, arith, length-take-le}
use Rattle.std.proofs.lemmas.List.{take_at}
use Rattle.choice_core.specs.declared.sharings.Choice.{Choice}
use Rattle.choice_core.specs.declared.problems.Costs.{Costs}
use Rattle.choice_search.specs.declared.arenas.Node.{Node}
use Rattle.choice_search.specs.Arenas.{prefix_at}
use Rattle.choice_search.specs.Searched.{IsSearched}
use Rattle.choice_search.proofs.Opens.{new_arena, new_some, new_others, new_searched}
use Rattle.choice_search.proofs.searches.advance.Goals as goal

on_path : (p : Costs) (path : List Choice) (depth : ℕ) → length path ≡ length p.own → depth < length p.own → length (take depth path) < length p.own
on_path p path depth size short = let long = length-take-le depth path (omega (arith, size, short)) in omega (arith, long, short)

written : (len : ℕ) (new old : List ℕ) → length new ≡ length old → length old ≡ len → take len (new ++ drop (length new) old) ≡ new
written len new old size whole = take_at new (drop (length new) old) len (omega (arith, size, whole))

pub lift-requires-clause-arena : goal.lift-requires-clause-arena
lift-requires-clause-arena c =
    let r = c.requires.stands in
    let short = on_path c.args.problem.now c.args.path.now c.args.found.depth c.requires.size c.requires.short in
    new_arena c.args.problem.now c.requires.problem r.0 r.1 c.args.arena.now.nodes.items c.args.arena.now.leasts.items (take c.args.found.depth c.args.path.now) c.args.found.number r.2 short c.as_slice.result.now c.as_mut_slice.result.now (c.as_slice.ensures.value ∙ c.in_ok-split.ensures.nodes) (c.as_mut_slice.ensures.value ∙ c.in_ok-split.ensures.leasts)

pub lift-requires-clause-split : goal.lift-requires-clause-split
lift-requires-clause-split c =
    let r = c.requires.stands in
    let short = on_path c.args.problem.now c.args.path.now c.args.found.depth c.requires.size c.requires.short in
    new_some c.args.problem.now c.requires.problem r.0 r.1 c.args.arena.now.nodes.items c.args.arena.now.leasts.items (take c.args.found.depth c.args.path.now) c.args.found.number r.2 short c.as_slice.result.now c.as_mut_slice.result.now (c.as_slice.ensures.value ∙ c.in_ok-split.ensures.nodes) (c.as_mut_slice.ensures.value ∙ c.in_ok-split.ensures.leasts)

pub lift-requires-clause-others : goal.lift-requires-clause-others
lift-requires-clause-others c =
    let r = c.requires.stands in
    let short = on_path c.args.problem.now c.args.path.now c.args.found.depth c.requires.size c.requires.short in
    new_others c.args.problem.now c.requires.problem r.0 r.1 c.args.arena.now.nodes.items c.args.arena.now.leasts.items (take c.args.found.depth c.args.path.now) c.args.found.number r.2 short c.as_slice.result.now c.as_mut_slice.result.now (c.as_slice.ensures.value ∙ c.in_ok-split.ensures.nodes) (c.as_mut_slice.ensures.value ∙ c.in_ok-split.ensures.leasts)

pub returns-clause-searched : goal.returns-clause-searched
returns-clause-searched c = λ prefixes popped at. (
    let short = on_path c.args.problem.now c.args.path.now c.args.found.depth c.requires.size c.requires.short in
    let found = new_searched c.args.problem.now c.requires.problem prefixes popped c.args.arena.now.nodes.items c.args.arena.now.leasts.items (take c.args.found.depth c.args.path.now) c.args.found.number at short c.as_slice.result.now c.as_mut_slice.result.now (c.as_slice.ensures.value ∙ c.in_ok-split.ensures.nodes) (c.as_mut_slice.ensures.value ∙ c.in_ok-split.ensures.leasts) c.lift.new.leasts c.lift.auto.leasts c.lift.ensures.leasts c.lift.ensures.waiting in
    let same = written c.split.new.self.leasts.len c.lift.new.leasts c.split.new.self.leasts.items (c.lift.auto.leasts ∙ ap length c.as_mut_slice.ensures.value) (sym (c.split.new.self.leasts.ok.0)) in
    (found.0, subst (λ (ls : List ℕ). IsSearched c.args.problem.now found.0 (prefix_at prefixes c.args.found.number ∷ popped) c.split.new.self.nodes.items ls) (sym same) (subst (λ (ns : List Node). IsSearched c.args.problem.now found.0 (prefix_at prefixes c.args.found.number ∷ popped) ns c.lift.new.leasts) c.as_slice.ensures.value found.1)))
