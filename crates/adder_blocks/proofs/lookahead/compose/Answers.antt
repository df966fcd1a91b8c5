use Rattle.std.proofs.lemmas.Result.{err_from_is_err_and}
use Rattle.std.proofs.Common.{◌&&◌, refl, ◌∙◌, arith}
use Rattle.hy_bits.specs.Bits.{xor}
use Rattle.gate_net.specs.Meaning.{value}
use Rattle.gate_net.proofs.GrowthLaws.{Grows-value, Grows-level, Grows-trans, Grows-refl, Grows-then, Grows-weaken, StopsWithin-after}
use Rattle.gate_net.proofs.ListLaws.{equal_two}
use Rattle.adder_blocks.proofs.CellLaws.{compose-bits}
use Rattle.adder_blocks.proofs.lookahead.compose.Goals as goal

pub returns-clause-value : goal.returns-clause-value
returns-clause-value c = λ bits x.
    let one = c.in_ok-taken.ensures.grows in
    let two = Grows-trans one c.in_ok-generate.ensures.grows in
    equal_two xor
    (Grows-value c.in_ok-propagate.ensures.grows bits c.in_ok-generate.generate c.in_ok-generate.ensures.stands
    ∙ c.in_ok-generate.ensures.value bits
    ∙ equal_two xor (Grows-value one bits c.args.high.generate c.requires.first.0) (c.in_ok-taken.ensures.value bits))
    (equal_two (λ y z. y && z)
    (c.in_ok-propagate.ensures.value bits
    ∙ equal_two (λ y z. y && z) (Grows-value two bits c.args.high.propagate c.requires.first.1) (Grows-value two bits c.args.low.propagate c.requires.second.1))
    refl)
    ∙ compose-bits (value c.args.net.now bits c.args.high.generate) (value c.args.net.now bits c.args.high.propagate) (value c.args.net.now bits c.args.low.generate) (value c.args.net.now bits c.args.low.propagate) x

pub returns-clause-level : goal.returns-clause-level
returns-clause-level c = λ p high low.
    let one = c.in_ok-taken.ensures.grows in
    let two = Grows-trans one c.in_ok-generate.ensures.grows in (
      omega (arith, high.0, high.1, low.0, low.1, Grows-level c.in_ok-propagate.ensures.grows c.in_ok-generate.generate c.in_ok-generate.ensures.stands, c.in_ok-generate.ensures.level, c.in_ok-taken.ensures.level, Grows-level one c.args.high.generate c.requires.first.0),
      omega (arith, high.1, low.1, c.in_ok-propagate.ensures.level, Grows-level two c.args.high.propagate c.requires.first.1, Grows-level two c.args.low.propagate c.requires.second.1),
    )

pub returns-clause-grows : goal.returns-clause-grows
returns-clause-grows c = Grows-trans (Grows-trans c.in_ok-taken.ensures.grows c.in_ok-generate.ensures.grows) c.in_ok-propagate.ensures.grows

pub returns-in_err-taken-clause-grows : goal.returns-in_err-taken-clause-grows
returns-in_err-taken-clause-grows c = Grows-weaken c.in_err-taken.ensures.grows (omega arith) (omega arith)

pub returns-in_err-taken-clause-stops : goal.returns-in_err-taken-clause-stops
returns-in_err-taken-clause-stops c =
    let p = err_from_is_err_and c.from_residual.result c.from_residual.ensures.1 in
    rw (p.1, p.2) (StopsWithin-after c.and.new.self 1 3 _ (Grows-refl c.args.net.now) c.in_err-taken.ensures.stops (omega arith))

pub returns-in_err-generate-clause-grows : goal.returns-in_err-generate-clause-grows
returns-in_err-generate-clause-grows c = Grows-then c.in_ok-taken.ensures.grows c.in_err-generate.ensures.grows (omega arith) (omega arith)

pub returns-in_err-generate-clause-stops : goal.returns-in_err-generate-clause-stops
returns-in_err-generate-clause-stops c =
    let p = err_from_is_err_and c.from_residual-in_err-generate.result c.from_residual-in_err-generate.ensures.1 in
    rw (p.1, p.2) (StopsWithin-after c.xor.new.self 1 3 _ c.in_ok-taken.ensures.grows c.in_err-generate.ensures.stops (omega arith))

pub returns-in_err-propagate-clause-grows : goal.returns-in_err-propagate-clause-grows
returns-in_err-propagate-clause-grows c = Grows-then (Grows-trans c.in_ok-taken.ensures.grows c.in_ok-generate.ensures.grows) c.in_err-propagate.ensures.grows (omega arith) (omega arith)

pub returns-in_err-propagate-clause-stops : goal.returns-in_err-propagate-clause-stops
returns-in_err-propagate-clause-stops c =
    let p = err_from_is_err_and c.from_residual-in_err-propagate.result c.from_residual-in_err-propagate.ensures.1 in
    rw (p.1, p.2) (StopsWithin-after c.and-2.new.self 1 3 _ (Grows-trans c.in_ok-taken.ensures.grows c.in_ok-generate.ensures.grows) c.in_err-propagate.ensures.stops (omega arith))
