use Rattle.std.proofs.Common.{ap, ◌∙◌, arith}
use Rattle.std.specs.List.{sum_by, filter}
use Rattle.std.proofs.lemmas.List.{take_all}
use Rattle.choice_core.specs.Problems.{touches}
use Rattle.choice_core.specs.Growing.{lost}
use Rattle.choice_core.proofs.Loops.{sum_read}
use Rattle.choice_core.proofs.Growth.{touched_fan, lost_at}
use Rattle.choice_core.proofs.rising.lost_sum.Goals as goal
use Rattle.choice_core.proofs.rising.lost_sum.Goals.{then-fan-number, else-fan-number}

pub least_price-total-requires : goal.least_price-total-requires
least_price-total-requires c =
    rw c.own.ensures (touched_fan c.args.problem.now c.requires.problem c.args.number c.loop-place.place c.touching_fan-fan.result.now (omega (arith, c.touching_count-place-end.ensures, c.loop-place-test.true)) c.touching_fan-fan.ensures)

pub overflow_add-total : goal.overflow_add-total
overflow_add-total c =
    let fans = filter (λ f. touches f c.args.number) c.args.problem.now.fans in
    let item = c.touching_fan-fan.result.now in
    let read = sum_read (lost c.args.problem.now.own c.args.number) fans c.loop-place.place item (omega (arith, c.touching_count-place-end.ensures, c.loop-place-test.true)) c.touching_fan-fan.ensures in
    let price = rw c.own.ensures at c.least_price-total.ensures in
    let here = (lost_at c.args.problem.now.own c.args.number item).0 c.if-fan-number.true in
    omega (arith, read.1, price, here, c.loop-place.invariant, c.requires.small)

pub loop-place-preserved : goal.loop-place-preserved
loop-place-preserved c =
    let fans = filter (λ f. touches f c.args.number) c.args.problem.now.fans in
    let item = c.touching_fan-fan.result.now in
    let read = sum_read (lost c.args.problem.now.own c.args.number) fans c.loop-place.place item (omega (arith, c.touching_count-place-end.ensures, c.loop-place-test.true)) c.touching_fan-fan.ensures in
    elim c.if-fan-number.branch [
      | then-fan-number w ↦ (
          let price = rw w.own.ensures at w.least_price-total.ensures in
          let here = (lost_at c.args.problem.now.own c.args.number item).0 w.if-fan-number.true in
          omega (arith, read.0, price, here, c.loop-place.invariant, w.total-is))
      | else-fan-number w ↦ (
          let apart = (lost_at c.args.problem.now.own c.args.number item).1 w.if-fan-number.false in
          omega (arith, read.0, apart, c.loop-place.invariant, w.total-is))
    ]

pub returns : goal.returns
returns c =
    let fans = filter (λ f. touches f c.args.number) c.args.problem.now.fans in
    let all = take_all c.loop-place.place fans (omega (arith, c.touching_count-place-end.ensures, c.loop-place-test.false)) in
    c.loop-place.invariant ∙ ap (sum_by (lost c.args.problem.now.own c.args.number)) all
