use Rattle.std.proofs.Common.{◌≡◌, ◌+◌, ◌++◌, ◌∷◌, [], ◌∙◌, List, take, set, ap, sym, subst, arith}
use Rattle.std.proofs.lemmas.List.{take_more_set, take-set}
use Rattle.choice_core.specs.declared.sharings.Choice.{Choice}
use Rattle.choice_core.specs.declared.sharings.Choice.TheVariants.{S}
use Rattle.choice_core.specs.Problems.{Fits}
use Rattle.choice_check.proofs.Siblings.{path_shorter, path_more}
use Rattle.choice_check.proofs.paths.bound_beside.Goals as goal

pub bound_with-requires-clause-path : goal.bound_with-requires-clause-path
bound_with-requires-clause-path c =
    let good = c.requires.path in
    path_more c.args.problem.now c.args.path.now c.args.number c.args.choice (path_shorter c.args.problem.now c.args.path.now c.args.number (c.args.number + 1) (omega arith) good) (omega (arith, good.within, good.size)) c.requires.allowed

pub shallow_bound-requires-clause-shallow : goal.shallow_bound-requires-clause-shallow
shallow_bound-requires-clause-shallow c =
    let good = c.requires.path in
    let p = c.args.problem.now in
    let path = c.args.path.now in
    let new = set path c.args.number c.args.choice in
    let whole = (path_more p path c.args.number c.args.choice (path_shorter p path c.args.number (c.args.number + 1) (omega arith) good) (omega (arith, good.within, good.size)) c.requires.allowed).fits in
    let split : take (c.args.number + 1) new ≡ take c.args.number new ++ S ∷ [] =
    take_more_set path c.args.number c.args.choice (omega (arith, good.within)) ∙ ap (λ (q : List Choice). q ++ c.args.choice ∷ []) (sym (take-set path c.args.number c.args.choice)) ∙ ap (λ (d : Choice). take c.args.number new ++ d ∷ []) c.in-C-S.is-1 in
    subst (λ (q : List Choice). Fits p.own q) split whole
