use Rattle.std.proofs.Common.{◌&&◌, ◌∙◌, arith}
use Rattle.std.proofs.lemmas.Result.{err_from_is_err_and}
use Rattle.hy_bits.specs.Bits.{xor}
use Rattle.gate_net.proofs.GrowthLaws.{Grows-value, Grows-level, Grows-trans, Grows-then, Grows-weaken, StopsWithin-after, Grows-refl}
use Rattle.gate_net.proofs.ListLaws.{equal_two}
use Rattle.adder_blocks.proofs.adder.majority.Goals as goal

pub returns-in_err-first-clause-grows : goal.returns-in_err-first-clause-grows
returns-in_err-first-clause-grows c = Grows-weaken c.in_err-first.ensures.grows (omega arith) (omega arith)

pub returns-in_err-second-clause-grows : goal.returns-in_err-second-clause-grows
returns-in_err-second-clause-grows c = Grows-then c.in_ok-first.ensures.grows c.in_err-second.ensures.grows (omega arith) (omega arith)

pub returns-in_err-both-clause-grows : goal.returns-in_err-both-clause-grows
returns-in_err-both-clause-grows c = Grows-then (Grows-trans c.in_ok-first.ensures.grows c.in_ok-second.ensures.grows) c.in_err-both.ensures.grows (omega arith) (omega arith)

pub returns-in_err-next-clause-grows : goal.returns-in_err-next-clause-grows
returns-in_err-next-clause-grows c = Grows-then (Grows-trans (Grows-trans c.in_ok-first.ensures.grows c.in_ok-second.ensures.grows) c.in_ok-both.ensures.grows) c.in_err-next.ensures.grows (omega arith) (omega arith)

pub returns-in_err-next-clause-stops : goal.returns-in_err-next-clause-stops
returns-in_err-next-clause-stops c =
    let p = err_from_is_err_and c.from_residual-in_err-next.result c.from_residual-in_err-next.ensures.1 in
    rw (p.1, p.2) (StopsWithin-after c.xor-3.new.self 1 (4) _ (Grows-trans (Grows-trans c.in_ok-first.ensures.grows c.in_ok-second.ensures.grows) c.in_ok-both.ensures.grows) c.in_err-next.ensures.stops (omega arith))

pub returns-clause-grows : goal.returns-clause-grows
returns-clause-grows c = (Grows-trans (Grows-trans (Grows-trans c.in_ok-first.ensures.grows c.in_ok-second.ensures.grows) c.in_ok-both.ensures.grows) c.in_ok-next.ensures.grows)

pub returns-clause-value : goal.returns-clause-value
returns-clause-value c = λ bits.
    let one = c.in_ok-first.ensures.grows in
    let two = Grows-trans one c.in_ok-second.ensures.grows in
    let three = Grows-trans two c.in_ok-both.ensures.grows in
    c.in_ok-next.ensures.value bits
    ∙ equal_two xor (Grows-value three bits c.args.carry c.requires.third)
    (c.in_ok-both.ensures.value bits
    ∙ equal_two (λ x y. x && y)
    (Grows-value c.in_ok-second.ensures.grows bits c.in_ok-first.first c.in_ok-first.ensures.stands ∙ c.in_ok-first.ensures.value bits)
    (c.in_ok-second.ensures.value bits
    ∙ equal_two xor (Grows-value one bits c.args.b c.requires.second) (Grows-value one bits c.args.carry c.requires.third)))

pub returns-clause-level : goal.returns-clause-level
returns-clause-level c = λ d first second third.
    let one = c.in_ok-first.ensures.grows in
    let two = Grows-trans one c.in_ok-second.ensures.grows in
    let three = Grows-trans two c.in_ok-both.ensures.grows in
    omega (arith, c.in_ok-next.ensures.level, c.in_ok-both.ensures.level, c.in_ok-second.ensures.level, c.in_ok-first.ensures.level, Grows-level three c.args.carry c.requires.third, Grows-level c.in_ok-second.ensures.grows c.in_ok-first.first c.in_ok-first.ensures.stands, Grows-level one c.args.b c.requires.second, Grows-level one c.args.carry c.requires.third)

pub returns-in_err-first-clause-stops : goal.returns-in_err-first-clause-stops
returns-in_err-first-clause-stops c =
    let p = err_from_is_err_and c.from_residual.result c.from_residual.ensures.1 in
    rw (p.1, p.2) (StopsWithin-after c.xor.new.self 1 4 _ (Grows-refl c.args.net.now) c.in_err-first.ensures.stops (omega arith))

pub returns-in_err-second-clause-stops : goal.returns-in_err-second-clause-stops
returns-in_err-second-clause-stops c =
    let p = err_from_is_err_and c.from_residual-in_err-second.result c.from_residual-in_err-second.ensures.1 in
    rw (p.1, p.2) (StopsWithin-after c.xor-2.new.self 1 4 _ c.in_ok-first.ensures.grows c.in_err-second.ensures.stops (omega arith))

pub returns-in_err-both-clause-stops : goal.returns-in_err-both-clause-stops
returns-in_err-both-clause-stops c =
    let p = err_from_is_err_and c.from_residual-in_err-both.result c.from_residual-in_err-both.ensures.1 in
    rw (p.1, p.2) (StopsWithin-after c.and.new.self 1 4 _ (Grows-trans c.in_ok-first.ensures.grows c.in_ok-second.ensures.grows) c.in_err-both.ensures.stops (omega arith))
