use Rattle.std.proofs.Common.{◌-◌, ◌+◌, ◌≡◌, ℕ, Option, ap, ◌∙◌, arith, rules, length, get_or, drop}
use Rattle.std.specs.Option.{unwrap_or}
use Rattle.choice_core.specs.Choices.{rank}
use Rattle.choice_core.specs.Growing.{followed}
use Rattle.choice_core.proofs.Sums.{Fits-within}
use Rattle.choice_core.proofs.Limits.{bound_small}
use Rattle.choice_core.proofs.Rises.{rise_is, bound_before_le}
use Rattle.choice_core.proofs.rising.rise_by.Goals as goal

pub bounds-own-number : goal.bounds-own-number
bounds-own-number c = let whole = Fits-within c.args.problem.now.own c.args.prefix.now c.requires.fits in rw c.own.ensures (omega (arith, whole, c.requires.some))

pub offset_bounds-own-number : goal.offset_bounds-own-number
offset_bounds-own-number c = let below = bounds-own-number c in search rules

pub followed-requires-clause-within : goal.followed-requires-clause-within
followed-requires-clause-within c = omega (arith, Fits-within c.args.problem.now.own c.args.prefix.now c.requires.fits, c.requires.some)

pub overflow_add-result : goal.overflow_add-result
overflow_add-result c =
    let p = c.args.problem.now in
    let cs = c.args.prefix.now in
    let is = rise_is p c.requires.problem cs c.requires.some c.requires.fits c.args.ahead.now c.requires.ahead in
    let limit = bound_small p c.requires.problem cs c.requires.fits in
    let below = bound_before_le p c.requires.problem cs c.requires.fits in
    let own = c.unwrap_or-own.ensures ∙ ap (λ (o : Option ℕ). unwrap_or o 0) (rw c.own.ensures at c.own_cost.ensures) in
    let due = ap (λ (k : ℕ). get_or c.args.ahead.now.dues k 0) (c.rank.ensures.is ∙ ap rank c.sharing.ensures) in
    omega (arith, is.1, limit, own, due)

pub overflow_add-result-2 : goal.overflow_add-result-2
overflow_add-result-2 c =
    let p = c.args.problem.now in
    let cs = c.args.prefix.now in
    let is = rise_is p c.requires.problem cs c.requires.some c.requires.fits c.args.ahead.now c.requires.ahead in
    let limit = bound_small p c.requires.problem cs c.requires.fits in
    let below = bound_before_le p c.requires.problem cs c.requires.fits in
    let own = c.unwrap_or-own.ensures ∙ ap (λ (o : Option ℕ). unwrap_or o 0) (rw c.own.ensures at c.own_cost.ensures) in
    let due = ap (λ (k : ℕ). get_or c.args.ahead.now.dues k 0) (c.rank.ensures.is ∙ ap rank c.sharing.ensures) in
    let next : length cs - 1 + 1 ≡ length cs = omega (arith, c.requires.some) in
    let more = c.followed.ensures ∙ ap (λ (k : ℕ). followed p cs (length cs - 1) k (drop k p.own)) next in
    omega (arith, is.1, limit, own, due, more)

pub overflow_sub-result : goal.overflow_sub-result
overflow_sub-result c =
    let p = c.args.problem.now in
    let cs = c.args.prefix.now in
    let is = rise_is p c.requires.problem cs c.requires.some c.requires.fits c.args.ahead.now c.requires.ahead in
    let limit = bound_small p c.requires.problem cs c.requires.fits in
    let below = bound_before_le p c.requires.problem cs c.requires.fits in
    let own = c.unwrap_or-own.ensures ∙ ap (λ (o : Option ℕ). unwrap_or o 0) (rw c.own.ensures at c.own_cost.ensures) in
    let due = ap (λ (k : ℕ). get_or c.args.ahead.now.dues k 0) (c.rank.ensures.is ∙ ap rank c.sharing.ensures) in
    let next : length cs - 1 + 1 ≡ length cs = omega (arith, c.requires.some) in
    let more = c.followed.ensures ∙ ap (λ (k : ℕ). followed p cs (length cs - 1) k (drop k p.own)) next in
    omega (arith, is.0, below, own, due, more)

pub returns : goal.returns
returns c =
    let p = c.args.problem.now in
    let cs = c.args.prefix.now in
    let is = rise_is p c.requires.problem cs c.requires.some c.requires.fits c.args.ahead.now c.requires.ahead in
    let limit = bound_small p c.requires.problem cs c.requires.fits in
    let below = bound_before_le p c.requires.problem cs c.requires.fits in
    let own = c.unwrap_or-own.ensures ∙ ap (λ (o : Option ℕ). unwrap_or o 0) (rw c.own.ensures at c.own_cost.ensures) in
    let due = ap (λ (k : ℕ). get_or c.args.ahead.now.dues k 0) (c.rank.ensures.is ∙ ap rank c.sharing.ensures) in
    let next : length cs - 1 + 1 ≡ length cs = omega (arith, c.requires.some) in
    let more = c.followed.ensures ∙ ap (λ (k : ℕ). followed p cs (length cs - 1) k (drop k p.own)) next in
    omega (arith, is.0, below, own, due, more)
