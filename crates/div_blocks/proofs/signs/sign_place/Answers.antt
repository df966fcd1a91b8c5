use Rattle.std.proofs.lemmas.Result.{err_from_is_err_and}
use Rattle.std.proofs.Common.{◌&&◌, ◌∙◌, arith}
use Rattle.hy_bits.specs.Bits.{xor}
use Rattle.gate_net.proofs.GrowthLaws.{Grows-value, Grows-trans, Grows-refl, Grows-then, Grows-weaken, StopsWithin-after}
use Rattle.gate_net.proofs.ListLaws.{equal_two}
use Rattle.div_blocks.proofs.signs.sign_place.Goals as goal

pub returns-clause-grows : goal.returns-clause-grows
returns-clause-grows c = Grows-trans (Grows-trans c.in_ok-turned.ensures.grows c.in_ok-bit.ensures.grows) c.in_ok-next.ensures.grows

pub returns-clause-bit : goal.returns-clause-bit
returns-clause-bit c = λ bits.
    Grows-value c.in_ok-next.ensures.grows bits c.in_ok-bit.bit c.in_ok-bit.ensures.stands
    ∙ c.in_ok-bit.ensures.value bits
    ∙ equal_two xor (c.in_ok-turned.ensures.value bits) (Grows-value c.in_ok-turned.ensures.grows bits c.args.carry c.requires.third)

pub returns-clause-carry : goal.returns-clause-carry
returns-clause-carry c = λ bits.
    let two = Grows-trans c.in_ok-turned.ensures.grows c.in_ok-bit.ensures.grows in
    c.in_ok-next.ensures.value bits
    ∙ equal_two (λ x y. x && y)
    (Grows-value c.in_ok-bit.ensures.grows bits c.in_ok-turned.turned c.in_ok-turned.ensures.stands ∙ c.in_ok-turned.ensures.value bits)
    (Grows-value two bits c.args.carry c.requires.third)

pub returns-in_err-turned-clause-grows : goal.returns-in_err-turned-clause-grows
returns-in_err-turned-clause-grows c = Grows-weaken c.in_err-turned.ensures.grows (omega arith) (omega arith)

pub returns-in_err-turned-clause-stops : goal.returns-in_err-turned-clause-stops
returns-in_err-turned-clause-stops c =
    let p = err_from_is_err_and c.from_residual.result c.from_residual.ensures.1 in
    rw (p.1, p.2) (StopsWithin-after c.xor.new.self 1 3 _ (Grows-refl c.args.net.now) c.in_err-turned.ensures.stops (omega arith))

pub returns-in_err-bit-clause-grows : goal.returns-in_err-bit-clause-grows
returns-in_err-bit-clause-grows c = Grows-then c.in_ok-turned.ensures.grows c.in_err-bit.ensures.grows (omega arith) (omega arith)

pub returns-in_err-bit-clause-stops : goal.returns-in_err-bit-clause-stops
returns-in_err-bit-clause-stops c =
    let p = err_from_is_err_and c.from_residual-in_err-bit.result c.from_residual-in_err-bit.ensures.1 in
    rw (p.1, p.2) (StopsWithin-after c.xor-2.new.self 1 3 _ c.in_ok-turned.ensures.grows c.in_err-bit.ensures.stops (omega arith))

pub returns-in_err-next-clause-grows : goal.returns-in_err-next-clause-grows
returns-in_err-next-clause-grows c = Grows-then (Grows-trans c.in_ok-turned.ensures.grows c.in_ok-bit.ensures.grows) c.in_err-next.ensures.grows (omega arith) (omega arith)

pub returns-in_err-next-clause-stops : goal.returns-in_err-next-clause-stops
returns-in_err-next-clause-stops c =
    let p = err_from_is_err_and c.from_residual-in_err-next.result c.from_residual-in_err-next.ensures.1 in
    rw (p.1, p.2) (StopsWithin-after c.and.new.self 1 3 _ (Grows-trans c.in_ok-turned.ensures.grows c.in_ok-bit.ensures.grows) c.in_err-next.ensures.stops (omega arith))
