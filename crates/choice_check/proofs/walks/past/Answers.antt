use Rattle.std.proofs.Common.{arith, refl, sym, ◌∙◌}
use Rattle.choice_check.proofs.Dues.{unsound, past_goes}
use Rattle.choice_check.proofs.walks.past.Goals as goal
use Rattle.choice_check.proofs.walks.past.Goals.{then-value-walk-via-then-value-walk, then-value-walk-via-else-value-walk+then-not-closes}

pub returns-then-value-walk-clause-node : goal.returns-then-value-walk-clause-node
returns-then-value-walk-clause-node c =
    unsound c.args.problem.now c.args.choices.now c.args.number c.args.value c.args.path.now c.args.walk c.requires.some c.requires.bound (λ sound. elim c.then-value-walk.branch [
      | then-value-walk-via-then-value-walk w ↦ w.if-value-walk.true (sound.0 ∙ sym c.requires.bound)
      | then-value-walk-via-else-value-walk+then-not-closes w ↦ w.if-not-closes.ensures sound.1
    ])

pub returns-clause-node : goal.returns-clause-node
returns-clause-node c =
    let some = c.requires.some in
    past_goes c.args.problem.now c.args.choices.now c.args.number c.args.value c.args.path.now _ c.args.walk _ some (c.if-value-walk.false ∙ c.requires.bound, c.if-not-closes.ensures) (omega (arith, some)) refl c.advance-next.ensures.next
