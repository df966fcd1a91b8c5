use Rattle.std.proofs.Common.{◌&&◌, ◌∙◌, arith}
use Rattle.std.proofs.lemmas.Result.{err_from_is_err_and}
use Rattle.hy_bits.specs.Bits.{xor}
use Rattle.gate_net.specs.Meaning.{value}
use Rattle.gate_net.proofs.GrowthLaws.{Grows-value, Grows-level, Grows-trans, Grows-then, Grows-weaken, StopsWithin-after, Grows-refl}
use Rattle.gate_net.proofs.ListLaws.{equal_two}
use Rattle.adder_blocks.proofs.BitSteps.{sum-order}
use Rattle.adder_blocks.proofs.adder.full_adder.Goals as goal

pub returns-in_err-first-clause-grows : goal.returns-in_err-first-clause-grows
returns-in_err-first-clause-grows c = Grows-weaken c.in_err-first.ensures.grows (omega arith) (omega arith)

pub returns-in_err-second-clause-grows : goal.returns-in_err-second-clause-grows
returns-in_err-second-clause-grows c = Grows-then c.in_ok-first.ensures.grows c.in_err-second.ensures.grows (omega arith) (omega arith)

pub returns-in_err-sum-clause-grows : goal.returns-in_err-sum-clause-grows
returns-in_err-sum-clause-grows c = Grows-then (Grows-trans c.in_ok-first.ensures.grows c.in_ok-second.ensures.grows) c.in_err-sum.ensures.grows (omega arith) (omega arith)

pub returns-in_err-both-clause-grows : goal.returns-in_err-both-clause-grows
returns-in_err-both-clause-grows c = Grows-then (Grows-trans (Grows-trans c.in_ok-first.ensures.grows c.in_ok-second.ensures.grows) c.in_ok-sum.ensures.grows) c.in_err-both.ensures.grows (omega arith) (omega arith)

pub returns-in_err-next-clause-grows : goal.returns-in_err-next-clause-grows
returns-in_err-next-clause-grows c = Grows-then (Grows-trans (Grows-trans (Grows-trans c.in_ok-first.ensures.grows c.in_ok-second.ensures.grows) c.in_ok-sum.ensures.grows) c.in_ok-both.ensures.grows) c.in_err-next.ensures.grows (omega arith) (omega arith)

pub returns-in_err-both-clause-stops : goal.returns-in_err-both-clause-stops
returns-in_err-both-clause-stops c =
    let p = err_from_is_err_and c.from_residual-in_err-both.result c.from_residual-in_err-both.ensures.1 in
    rw (p.1, p.2) (StopsWithin-after c.and.new.self 1 (5) _ (Grows-trans (Grows-trans c.in_ok-first.ensures.grows c.in_ok-second.ensures.grows) c.in_ok-sum.ensures.grows) c.in_err-both.ensures.stops (omega arith))

pub returns-in_err-next-clause-stops : goal.returns-in_err-next-clause-stops
returns-in_err-next-clause-stops c =
    let p = err_from_is_err_and c.from_residual-in_err-next.result c.from_residual-in_err-next.ensures.1 in
    rw (p.1, p.2) (StopsWithin-after c.xor-4.new.self 1 (5) _ (Grows-trans (Grows-trans (Grows-trans c.in_ok-first.ensures.grows c.in_ok-second.ensures.grows) c.in_ok-sum.ensures.grows) c.in_ok-both.ensures.grows) c.in_err-next.ensures.stops (omega arith))

pub returns-clause-grows : goal.returns-clause-grows
returns-clause-grows c = (Grows-trans (Grows-trans (Grows-trans (Grows-trans c.in_ok-first.ensures.grows c.in_ok-second.ensures.grows) c.in_ok-sum.ensures.grows) c.in_ok-both.ensures.grows) c.in_ok-next.ensures.grows)

pub returns-clause-sum : goal.returns-clause-sum
returns-clause-sum c = λ bits.
    let one = c.in_ok-first.ensures.grows in
    let two = Grows-trans one c.in_ok-second.ensures.grows in
    Grows-value (Grows-trans c.in_ok-both.ensures.grows c.in_ok-next.ensures.grows) bits c.in_ok-sum.sum c.in_ok-sum.ensures.stands
    ∙ c.in_ok-sum.ensures.value bits
    ∙ equal_two xor
    (Grows-value c.in_ok-second.ensures.grows bits c.in_ok-first.first c.in_ok-first.ensures.stands ∙ c.in_ok-first.ensures.value bits)
    (Grows-value two bits c.args.b c.requires.second)
    ∙ sum-order (value c.args.net.now bits c.args.a) (value c.args.net.now bits c.args.b) (value c.args.net.now bits c.args.carry)

pub returns-clause-carry : goal.returns-clause-carry
returns-clause-carry c = λ bits.
    let one = c.in_ok-first.ensures.grows in
    let two = Grows-trans one c.in_ok-second.ensures.grows in
    let three = Grows-trans two c.in_ok-sum.ensures.grows in
    let four = Grows-trans three c.in_ok-both.ensures.grows in
    c.in_ok-next.ensures.value bits
    ∙ equal_two xor (Grows-value four bits c.args.carry c.requires.third)
    (c.in_ok-both.ensures.value bits
    ∙ equal_two (λ x y. x && y)
    (Grows-value (Grows-trans c.in_ok-second.ensures.grows c.in_ok-sum.ensures.grows) bits c.in_ok-first.first c.in_ok-first.ensures.stands ∙ c.in_ok-first.ensures.value bits)
    (Grows-value c.in_ok-sum.ensures.grows bits c.in_ok-second.second c.in_ok-second.ensures.stands
    ∙ c.in_ok-second.ensures.value bits
    ∙ equal_two xor (Grows-value one bits c.args.b c.requires.second) (Grows-value one bits c.args.carry c.requires.third)))

pub returns-clause-sum_level : goal.returns-clause-sum_level
returns-clause-sum_level c = λ d first second third.
    let one = c.in_ok-first.ensures.grows in
    let two = Grows-trans one c.in_ok-second.ensures.grows in
    omega (
      arith,
      c.in_ok-sum.ensures.level,
      c.in_ok-first.ensures.level,
      Grows-level (Grows-trans c.in_ok-both.ensures.grows c.in_ok-next.ensures.grows) c.in_ok-sum.sum c.in_ok-sum.ensures.stands,
      Grows-level c.in_ok-second.ensures.grows c.in_ok-first.first c.in_ok-first.ensures.stands,
      Grows-level two c.args.b c.requires.second,
    )

pub returns-clause-carry_level : goal.returns-clause-carry_level
returns-clause-carry_level c = λ d first second third.
    let one = c.in_ok-first.ensures.grows in
    let two = Grows-trans one c.in_ok-second.ensures.grows in
    let three = Grows-trans two c.in_ok-sum.ensures.grows in
    let four = Grows-trans three c.in_ok-both.ensures.grows in
    omega (
      arith,
      c.in_ok-next.ensures.level,
      c.in_ok-both.ensures.level,
      c.in_ok-second.ensures.level,
      c.in_ok-first.ensures.level,
      Grows-level four c.args.carry c.requires.third,
      Grows-level (Grows-trans c.in_ok-second.ensures.grows c.in_ok-sum.ensures.grows) c.in_ok-first.first c.in_ok-first.ensures.stands,
      Grows-level c.in_ok-sum.ensures.grows c.in_ok-second.second c.in_ok-second.ensures.stands,
      Grows-level one c.args.b c.requires.second,
      Grows-level one c.args.carry c.requires.third,
    )

pub returns-in_err-first-clause-stops : goal.returns-in_err-first-clause-stops
returns-in_err-first-clause-stops c =
    let p = err_from_is_err_and c.from_residual.result c.from_residual.ensures.1 in
    rw (p.1, p.2) (StopsWithin-after c.xor.new.self 1 5 _ (Grows-refl c.args.net.now) c.in_err-first.ensures.stops (omega arith))

pub returns-in_err-second-clause-stops : goal.returns-in_err-second-clause-stops
returns-in_err-second-clause-stops c =
    let p = err_from_is_err_and c.from_residual-in_err-second.result c.from_residual-in_err-second.ensures.1 in
    rw (p.1, p.2) (StopsWithin-after c.xor-2.new.self 1 5 _ c.in_ok-first.ensures.grows c.in_err-second.ensures.stops (omega arith))

pub returns-in_err-sum-clause-stops : goal.returns-in_err-sum-clause-stops
returns-in_err-sum-clause-stops c =
    let p = err_from_is_err_and c.from_residual-in_err-sum.result c.from_residual-in_err-sum.ensures.1 in
    rw (p.1, p.2) (StopsWithin-after c.xor-3.new.self 1 5 _ (Grows-trans c.in_ok-first.ensures.grows c.in_ok-second.ensures.grows) c.in_err-sum.ensures.stops (omega arith))
