use Rattle.std.proofs.Common.{◌<◌, ◌∷◌, [], ◌++◌, ◌∙◌, ℕ, Option, ap, arith, rules, length, length-append}
use Rattle.std.specs.Option.{unwrap_or}
use Rattle.choice_core.specs.declared.sharings.Choice.TheVariants.{C, S}
use Rattle.choice_core.proofs.Sums.{Fits-within}
use Rattle.choice_core.proofs.Limits.{bound_small}
use Rattle.choice_core.proofs.Rises.{shallow_is}
use Rattle.choice_core.proofs.rising.shallow_bound.Goals as goal

pub bounds-own-prefix : goal.bounds-own-prefix
bounds-own-prefix c =
    let whole = Fits-within c.args.problem.now.own (c.args.prefix.now ++ C ∷ []) c.requires.compact in
    let size = length-append c.args.prefix.now (C ∷ []) in
    rw c.own.ensures (omega (arith, whole, size))

pub offset_bounds-own-prefix : goal.offset_bounds-own-prefix
offset_bounds-own-prefix c = let below = bounds-own-prefix c in search rules

pub overflow_sub-result : goal.overflow_sub-result
overflow_sub-result c =
    let short : length c.args.prefix.now < length c.args.problem.now.own = omega (arith, Fits-within c.args.problem.now.own (c.args.prefix.now ++ C ∷ []) c.requires.compact, length-append c.args.prefix.now (C ∷ [])) in
    let is = shallow_is c.args.problem.now c.requires.problem c.args.prefix.now short in
    let compact = c.unwrap_or-compact.ensures ∙ ap (λ (o : Option ℕ). unwrap_or o 0) (rw c.own.ensures at c.own_cost.ensures) in
    omega (arith, is.1, compact, c.requires.bound)

pub overflow_add-result : goal.overflow_add-result
overflow_add-result c =
    let short : length c.args.prefix.now < length c.args.problem.now.own = omega (arith, Fits-within c.args.problem.now.own (c.args.prefix.now ++ C ∷ []) c.requires.compact, length-append c.args.prefix.now (C ∷ [])) in
    let is = shallow_is c.args.problem.now c.requires.problem c.args.prefix.now short in
    let compact = c.unwrap_or-compact.ensures ∙ ap (λ (o : Option ℕ). unwrap_or o 0) (rw c.own.ensures at c.own_cost.ensures) in
    let shallow = c.unwrap_or.ensures ∙ ap (λ (o : Option ℕ). unwrap_or o 0) (rw c.own.ensures at c.own_cost-2.ensures) in
    let limit = bound_small c.args.problem.now c.requires.problem (c.args.prefix.now ++ S ∷ []) c.requires.shallow in
    omega (arith, is.0, is.1, compact, shallow, limit, c.requires.bound)

pub returns : goal.returns
returns c =
    let short : length c.args.prefix.now < length c.args.problem.now.own = omega (arith, Fits-within c.args.problem.now.own (c.args.prefix.now ++ C ∷ []) c.requires.compact, length-append c.args.prefix.now (C ∷ [])) in
    let is = shallow_is c.args.problem.now c.requires.problem c.args.prefix.now short in
    let compact = c.unwrap_or-compact.ensures ∙ ap (λ (o : Option ℕ). unwrap_or o 0) (rw c.own.ensures at c.own_cost.ensures) in
    let shallow = c.unwrap_or.ensures ∙ ap (λ (o : Option ℕ). unwrap_or o 0) (rw c.own.ensures at c.own_cost-2.ensures) in
    omega (arith, is.0, is.1, compact, shallow, c.requires.bound)
