use Rattle.std.proofs.Common.{◌≡◌, ℕ, [], ◌∷◌, ◌++◌, Option, None, Some, IsSome, option_map, get_or, take, refl, sym, ◌∙◌}
use Rattle.choice_core.specs.Problems.{own_of}
use Rattle.choice_core.specs.Bound.{bound_of}
use Rattle.choice_core.specs.declared.sharings.Choice.TheVariants.{C, S}
use Rattle.choice_search.proofs.Longer.{longer_fits}
use Rattle.choice_search.proofs.splitting.bound_if_shallow.Goals as goal

-- what an option's image has, the option has
some_of : (o : Option ℕ) (f : ℕ → ℕ) (image : ℕ) → Some image ≡ option_map f o → IsSome o
some_of None f image is = absurd (cc)
some_of (Some n) f image is = refl

some_is : (o : Option ℕ) (n : ℕ) → o ≡ Some n → IsSome o
some_is o n is = rw is refl

pub shallow_bound-requires-clause-compact : goal.shallow_bound-requires-clause-compact
shallow_bound-requires-clause-compact c =
    longer_fits c.args.problem.now.own c.args.path.now c.args.depth C c.requires.size c.requires.short c.requires.fits
    (some_of (own_of (get_or c.args.problem.now.own c.args.depth []) C) (λ _. bound_of c.args.problem.now (take c.args.depth c.args.path.now ++ C ∷ [])) c.in-Some.compact (sym c.in-Some.is ∙ c.requires.compact))

pub shallow_bound-requires-clause-shallow : goal.shallow_bound-requires-clause-shallow
shallow_bound-requires-clause-shallow c =
    longer_fits c.args.problem.now.own c.args.path.now c.args.depth S c.requires.size c.requires.short c.requires.fits
    (some_is _ _ (rw (c.own.ensures, c.place.ensures.is) at c.in_ok-_own.was))
