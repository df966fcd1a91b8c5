use Rattle.std.proofs.lemmas.Result.{err_from_is_err_and}
use Rattle.std.proofs.Common.{◌&&◌, ◌∙◌, arith}
use Rattle.hy_bits.specs.Bits.{xor}
use Rattle.gate_net.proofs.GrowthLaws.{Grows-value, Grows-level, Grows-trans, Grows-refl, Grows-then, Grows-weaken, StopsWithin-after}
use Rattle.gate_net.proofs.ListLaws.{equal_two}
use Rattle.adder_blocks.proofs.selection.choose_bit.Goals as goal

pub returns-clause-grows : goal.returns-clause-grows
returns-clause-grows c = Grows-trans (Grows-trans c.in_ok-differ.ensures.grows c.in_ok-taken.ensures.grows) c.in_ok-chosen.ensures.grows

pub returns-clause-value : goal.returns-clause-value
returns-clause-value c = λ bits.
    let one = c.in_ok-differ.ensures.grows in
    let two = Grows-trans one c.in_ok-taken.ensures.grows in
    c.in_ok-chosen.ensures.value bits
    ∙ equal_two xor (Grows-value two bits c.args.y c.requires.second)
    (c.in_ok-taken.ensures.value bits
    ∙ equal_two (λ x y. x && y) (Grows-value one bits c.args.c c.requires.selector) (c.in_ok-differ.ensures.value bits))

pub returns-clause-level : goal.returns-clause-level
returns-clause-level c = λ d low first second.
    let one = c.in_ok-differ.ensures.grows in
    let two = Grows-trans one c.in_ok-taken.ensures.grows in
    omega (arith, c.in_ok-chosen.ensures.level, c.in_ok-taken.ensures.level, c.in_ok-differ.ensures.level, Grows-level two c.args.y c.requires.second, Grows-level one c.args.c c.requires.selector)

pub returns-in_err-differ-clause-grows : goal.returns-in_err-differ-clause-grows
returns-in_err-differ-clause-grows c = Grows-weaken c.in_err-differ.ensures.grows (omega arith) (omega arith)

pub returns-in_err-differ-clause-stops : goal.returns-in_err-differ-clause-stops
returns-in_err-differ-clause-stops c =
    let p = err_from_is_err_and c.from_residual.result c.from_residual.ensures.1 in
    rw (p.1, p.2) (StopsWithin-after c.xor.new.self 1 3 _ (Grows-refl c.args.net.now) c.in_err-differ.ensures.stops (omega arith))

pub returns-in_err-taken-clause-grows : goal.returns-in_err-taken-clause-grows
returns-in_err-taken-clause-grows c = Grows-then c.in_ok-differ.ensures.grows c.in_err-taken.ensures.grows (omega arith) (omega arith)

pub returns-in_err-taken-clause-stops : goal.returns-in_err-taken-clause-stops
returns-in_err-taken-clause-stops c =
    let p = err_from_is_err_and c.from_residual-in_err-taken.result c.from_residual-in_err-taken.ensures.1 in
    rw (p.1, p.2) (StopsWithin-after c.and.new.self 1 3 _ c.in_ok-differ.ensures.grows c.in_err-taken.ensures.stops (omega arith))

pub returns-in_err-chosen-clause-grows : goal.returns-in_err-chosen-clause-grows
returns-in_err-chosen-clause-grows c = Grows-then (Grows-trans c.in_ok-differ.ensures.grows c.in_ok-taken.ensures.grows) c.in_err-chosen.ensures.grows (omega arith) (omega arith)

pub returns-in_err-chosen-clause-stops : goal.returns-in_err-chosen-clause-stops
returns-in_err-chosen-clause-stops c =
    let p = err_from_is_err_and c.from_residual-in_err-chosen.result c.from_residual-in_err-chosen.ensures.1 in
    rw (p.1, p.2) (StopsWithin-after c.xor-2.new.self 1 3 _ (Grows-trans c.in_ok-differ.ensures.grows c.in_ok-taken.ensures.grows) c.in_err-chosen.ensures.stops (omega arith))
