use Rattle.std.proofs.Common.{◌≡◌, [], ◌∷◌, take, get_or}
use Rattle.choice_core.specs.declared.sharings.Choice.TheVariants.{A, Y, C, S}
use Rattle.choice_search.specs.Arenas.{allowed_of, with_children, with_bounds}
use Rattle.choice_search.proofs.arenas.Arena.extend.Given as goal

-- the allowed ones of the choices so far have their nodes and bounds
abbrev pub invariant-loop-choice : goal.invariant-loop-choice
invariant-loop-choice l =
    (l.self.nodes.items ≡ with_children l.fn.self.nodes.items l.found.number (allowed_of (get_or l.problem.own l.found.depth []) (take l.choice-index (A ∷ Y ∷ C ∷ S ∷ []))))
    × (l.self.leasts.items ≡ with_bounds l.problem l.fn.self.leasts.items (take l.found.depth l.fn.path) (allowed_of (get_or l.problem.own l.found.depth []) (take l.choice-index (A ∷ Y ∷ C ∷ S ∷ []))))
