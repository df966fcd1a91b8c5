use Rattle.std.proofs.Common.{◌≡◌, ℕ, Option, true, cond, ap, sym, ◌∙◌, arith, length}
use Rattle.std.specs.List.{sum_by, filter}
use Rattle.std.proofs.lemmas.List.{take_all}
use Rattle.choice_core.specs.Problems.{touches, next_from, is_at}
use Rattle.choice_core.specs.Bound.{further}
use Rattle.choice_core.proofs.Growth.{added}
use Rattle.choice_core.proofs.Limits.{due_le}
use Rattle.choice_core.proofs.Loops.{at_is, sum_read}
use Rattle.choice_core.proofs.Rises.{due_touching}
use Rattle.choice_core.proofs.bounds.dues.Goals as goal

pub plus-dues-requires : goal.plus-dues-requires
plus-dues-requires c = λ t. (
    let p = c.args.problem.now in
    let fans = filter (λ f. touches f c.args.number) p.fans in
    let item = c.touching_fan-fan.result.now in
    let read = sum_read (λ f. added f c.args.prefix.now c.args.number t) fans c.loop-place.place item (omega (arith, c.touching_count-place-end.ensures, c.loop-place-test.true)) c.touching_fan-fan.ensures in
    let at : is_at (next_from (length c.args.prefix.now) item.to) c.args.number ≡ true =
    ap (λ (o : Option ℕ). is_at o c.args.number) (sym c.next_from.ensures.is) ∙ sym (at_is c.next_from.result c.args.number) ∙ sym c.eq.ensures ∙ c.if-eq.true in
    let here = ap (λ b. cond b (further item c.args.prefix.now t) 0) at in
    let whole = due_touching p.fans c.args.prefix.now c.args.number t in
    let limit = due_le p.fans c.args.prefix.now c.args.number t in
    omega (arith, read.1, here, c.further.ensures t, c.loop-place.invariant t, whole, limit, c.requires.problem.small))

pub returns : goal.returns
returns c = λ t. (
    let fans = filter (λ f. touches f c.args.number) c.args.problem.now.fans in
    let all = take_all c.loop-place.place fans (omega (arith, c.touching_count-place-end.ensures, c.loop-place-test.false)) in
    c.loop-place.invariant t ∙ ap (sum_by (λ f. added f c.args.prefix.now c.args.number t)) all ∙ sym (due_touching c.args.problem.now.fans c.args.prefix.now c.args.number t))
