use Rattle.std.proofs.Common.{◌∙◌, sym}
use Rattle.choice_check.proofs.Later.{later_end, later_short, later_apart, later_on}
use Rattle.choice_check.proofs.closing.is_later.Goals as goal

pub returns-then-number-choices : goal.returns-then-number-choices
returns-then-number-choices c = sym (sym c.loop-number.invariant ∙ later_short c.args.prefix.now c.args.choices.now c.loop-number.number c.if-number-choices.true)

pub returns-then-place : goal.returns-then-place
returns-then-place c =
    let apart = later_apart c.args.prefix.now c.args.choices.now c.loop-number.number _ _ c.loop-number-test.true c.if-number-choices.false (λ e. c.if-place.true (c.place.ensures.is ∙ e ∙ sym c.place-in-loop-number.ensures.is)) in
    rw (c.place-then-place.ensures.is, c.place-then-place-2.ensures.is) (sym apart ∙ c.loop-number.invariant)

pub loop-number-preserved : goal.loop-number-preserved
loop-number-preserved c =
    let on = later_on c.args.prefix.now c.args.choices.now c.loop-number.number _ _ c.loop-number-test.true c.if-number-choices.false (sym c.place.ensures.is ∙ c.if-place.false ∙ c.place-in-loop-number.ensures.is) in
    sym on ∙ c.loop-number.invariant

pub returns : goal.returns
returns c = sym (sym c.loop-number.invariant ∙ later_end c.args.prefix.now _ c.loop-number.number c.loop-number-test.false)
