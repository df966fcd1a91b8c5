use Rattle.std.proofs.Common.{arith, sym, ◌∙◌, inl, inr}
use Rattle.choice_check.proofs.Later.{later_is, closes_whole}
use Rattle.choice_check.proofs.closing.closes.Goals as goal
use Rattle.choice_check.proofs.closing.closes.Goals.{else-bound-cost-via-then-bound-cost+else-is_later, else-bound-cost-via-else-bound-cost}

pub returns-then-is_later : goal.returns-then-is_later
returns-then-is_later c = inr (inl (sym c.requires.bound ∙ c.if-bound-cost.true ∙ c.requires.cost, later_is c.args.prefix.now c.args.choices.now (sym c.is_later.ensures ∙ c.if-is_later.true)))

pub returns : goal.returns
returns c =
    let cost = c.requires.cost in
    let bound = c.requires.bound in
    let least = c.if-cost-bound.false in
    closes_whole c.args.problem.now c.args.choices.now c.args.prefix.now c.is_whole.result c.is_whole.ensures (λ more. absurd (omega (arith, more, cost, bound, least))) (λ even is. elim c.else-bound-cost.branch [
      | else-bound-cost-via-then-bound-cost+else-is_later w ↦ (let one = w.is_later.ensures in let two = w.if-is_later.false in absurd (cc))
      | else-bound-cost-via-else-bound-cost w ↦ w.if-bound-cost.false (bound ∙ even ∙ sym cost)
    ])
