use Rattle.std.proofs.Common.{◌&&◌, not, ◌∙◌, ap, arith}
use Rattle.std.proofs.lemmas.Result.{err_from_is_err_and}
use Rattle.hy_bits.specs.Bits.{xor}
use Rattle.gate_net.proofs.MeaningLaws.{value-complement}
use Rattle.gate_net.proofs.GrowthLaws.{Grows-value, Grows-trans, Grows-then, Grows-weaken, StopsWithin-after, Grows-refl}
use Rattle.gate_net.proofs.ListLaws.{equal_two}
use Rattle.div_blocks.proofs.rows.difference_place.Goals as goal

pub returns-in_err-differ-clause-grows : goal.returns-in_err-differ-clause-grows
returns-in_err-differ-clause-grows c = Grows-weaken c.in_err-differ.ensures.grows (omega arith) (omega arith)

pub returns-in_err-change-clause-grows : goal.returns-in_err-change-clause-grows
returns-in_err-change-clause-grows c = Grows-then c.in_ok-differ.ensures.grows c.in_err-change.ensures.grows (omega arith) (omega arith)

pub returns-in_err-both-clause-grows : goal.returns-in_err-both-clause-grows
returns-in_err-both-clause-grows c = Grows-then (Grows-trans c.in_ok-differ.ensures.grows c.in_ok-change.ensures.grows) c.in_err-both.ensures.grows (omega arith) (omega arith)

pub returns-in_err-next-clause-grows : goal.returns-in_err-next-clause-grows
returns-in_err-next-clause-grows c = Grows-then (Grows-trans (Grows-trans c.in_ok-differ.ensures.grows c.in_ok-change.ensures.grows) c.in_ok-both.ensures.grows) c.in_err-next.ensures.grows (omega arith) (omega arith)

pub returns-in_err-next-clause-stops : goal.returns-in_err-next-clause-stops
returns-in_err-next-clause-stops c =
    let p = err_from_is_err_and c.from_residual-in_err-next.result c.from_residual-in_err-next.ensures.1 in
    rw (p.1, p.2) (StopsWithin-after c.xor-3.new.self 1 4 _ (Grows-trans (Grows-trans c.in_ok-differ.ensures.grows c.in_ok-change.ensures.grows) c.in_ok-both.ensures.grows) c.in_err-next.ensures.stops (omega arith))

pub returns-clause-grows : goal.returns-clause-grows
returns-clause-grows c = Grows-trans (Grows-trans (Grows-trans c.in_ok-differ.ensures.grows c.in_ok-change.ensures.grows) c.in_ok-both.ensures.grows) c.in_ok-next.ensures.grows

pub returns-clause-change : goal.returns-clause-change
returns-clause-change c = λ bits.
    let one = c.in_ok-differ.ensures.grows in
    Grows-value (Grows-trans c.in_ok-both.ensures.grows c.in_ok-next.ensures.grows) bits c.in_ok-change.change c.in_ok-change.ensures.stands
    ∙ rw c.complement.ensures at (c.in_ok-change.ensures.value bits)
    ∙ equal_two xor
    (value-complement c.xor.new.self bits c.args.y ∙ ap not (Grows-value one bits c.args.y c.requires.second))
    (Grows-value one bits c.args.carry c.requires.third)

pub returns-clause-carry : goal.returns-clause-carry
returns-clause-carry c = λ bits.
    let one = c.in_ok-differ.ensures.grows in
    let two = Grows-trans one c.in_ok-change.ensures.grows in
    let three = Grows-trans two c.in_ok-both.ensures.grows in
    let change = rw c.complement.ensures at (c.in_ok-change.ensures.value bits) in
    c.in_ok-next.ensures.value bits
    ∙ equal_two xor (Grows-value three bits c.args.carry c.requires.third)
    (c.in_ok-both.ensures.value bits
    ∙ equal_two (λ x y. x && y)
    (Grows-value c.in_ok-change.ensures.grows bits c.in_ok-differ.differ c.in_ok-differ.ensures.stands ∙ c.in_ok-differ.ensures.value bits)
    (change
    ∙ equal_two xor
    (value-complement c.xor.new.self bits c.args.y ∙ ap not (Grows-value one bits c.args.y c.requires.second))
    (Grows-value one bits c.args.carry c.requires.third)))

pub returns-in_err-differ-clause-stops : goal.returns-in_err-differ-clause-stops
returns-in_err-differ-clause-stops c =
    let p = err_from_is_err_and c.from_residual.result c.from_residual.ensures.1 in
    rw (p.1, p.2) (StopsWithin-after c.xor.new.self 1 4 _ (Grows-refl c.args.net.now) c.in_err-differ.ensures.stops (omega arith))

pub returns-in_err-change-clause-stops : goal.returns-in_err-change-clause-stops
returns-in_err-change-clause-stops c =
    let p = err_from_is_err_and c.from_residual-in_err-change.result c.from_residual-in_err-change.ensures.1 in
    rw (p.1, p.2) (StopsWithin-after c.xor-2.new.self 1 4 _ c.in_ok-differ.ensures.grows c.in_err-change.ensures.stops (omega arith))

pub returns-in_err-both-clause-stops : goal.returns-in_err-both-clause-stops
returns-in_err-both-clause-stops c =
    let p = err_from_is_err_and c.from_residual-in_err-both.result c.from_residual-in_err-both.ensures.1 in
    rw (p.1, p.2) (StopsWithin-after c.and.new.self 1 4 _ (Grows-trans c.in_ok-differ.ensures.grows c.in_ok-change.ensures.grows) c.in_err-both.ensures.stops (omega arith))
