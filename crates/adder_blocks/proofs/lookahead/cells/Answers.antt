use Rattle.std.proofs.lemmas.Result.{err_from_is_err_and}
use Rattle.gate_net.proofs.GrowthLaws.{Grows-refl, Grows-then, Grows-weaken, StopsWithin-after}
use Rattle.std.proofs.Common.{◌≡◌, ◌-◌, ◌<◌, Bool, false, List, ◌∷◌, length, get_or, take, drop, refl, sym, ap, ◌∙◌, arith, rules, ◌*◌}
use Rattle.std.proofs.lemmas.List.{length-drop, length-map, take_rest}
use Rattle.hy_bits.specs.Bits.{bitwise, next_carry}
use Rattle.gate_net.specs.declared.literal.Lit.{Lit}
use Rattle.gate_net.specs.Meaning.{value}
use Rattle.gate_net.specs.Spelled.{values}
use Rattle.gate_net.proofs.ListLaws.{All-cons, equal_three, get_or-values}
use Rattle.adder_blocks.specs.Cells.{CellWithin, carried}
use Rattle.adder_blocks.proofs.CellLaws.{AllWithin-tail, CellWithin-Grows, carried-Grows, carries-cells, values-tail}
use Rattle.adder_blocks.proofs.lookahead.cells.Goals as goal

-- the places after the lowest one
rest_long : (xs : List Lit) → length (take (length xs - 1) (drop 1 xs)) ≡ length xs - 1
rest_long xs = ap length (take_rest xs 1) ∙ length-drop 1 xs

pub returns-clause-value : goal.returns-clause-value
returns-clause-value c = λ bits s.
    let n = c.args.net.now in
    let m = c.places.new.net in
    let z : Lit = record { code = 0 } in
    let some : 0 < length c.args.a.now = search rules in
    let items : c.extend_from_slice.new.self.items ≡ c.in_ok-first.first ∷ c.in_ok-rest.rest.items = search rules in
    let wide_a : length (values n bits c.args.a.now) ≡ length c.args.a.now = length-map c.args.a.now (value n bits) in
    let wide_b : length (values n bits c.args.b.now) ≡ length c.args.b.now = length-map c.args.b.now (value n bits) in
    let read_a : value n bits (get_or c.args.a.now 0 z) ≡ get_or (values n bits c.args.a.now) 0 false = sym (get_or-values n bits c.args.a.now 0 z false some) in
    let read_b : value n bits (get_or c.args.b.now 0 z) ≡ get_or (values n bits c.args.b.now) 0 false = sym (get_or-values n bits c.args.b.now 0 z false (omega (arith, c.requires.same_length))) in
    let first : carried m bits s c.in_ok-first.first ≡ next_carry (get_or (values n bits c.args.a.now) 0 false) (get_or (values n bits c.args.b.now) 0 false) (value n bits c.args.start) =
    carried-Grows c.in_ok-rest.ensures.grows bits s c.in_ok-first.first c.in_ok-first.ensures.stands
    ∙ c.in_ok-first.ensures.value bits s
    ∙ equal_three next_carry read_a read_b refl in
    let tail_a = values-tail c.in_ok-first.ensures.grows bits c.args.a.now c.requires.first in
    let tail_b = values-tail c.in_ok-first.ensures.grows bits c.args.b.now c.requires.second in
    let count : length c.in_ok-rest.rest.items ≡ length (drop 1 (values n bits c.args.a.now)) =
    omega (arith, c.in_ok-rest.ensures.same, length-drop 1 (values n bits c.args.a.now), wide_a, ap length (take_rest c.args.a.now 1), length-drop 1 c.args.a.now) in
    rw items
    (carries-cells m bits s (value n bits c.args.start) c.in_ok-first.first c.in_ok-rest.rest.items (values n bits c.args.a.now) (values n bits c.args.b.now)
    first count (omega (arith, wide_a, wide_b, c.requires.same_length)) (omega (arith, wide_a))
    (λ t. c.in_ok-rest.ensures.value bits t
    ∙ ap (λ (xs : List Bool). bitwise (λ y w. next_carry y w t) xs (values c.first_place.new.net bits (take (length c.args.b.now - 1) (drop 1 c.args.b.now)))) tail_a
    ∙ ap (λ (ys : List Bool). bitwise (λ y w. next_carry y w t) (drop 1 (values n bits c.args.a.now)) ys) tail_b))

pub returns-clause-level : goal.returns-clause-level
returns-clause-level c = λ d low high begin.
    let z : Lit = record { code = 0 } in
    let some : 0 < length c.args.a.now = search rules in
    let items : c.extend_from_slice.new.self.items ≡ c.in_ok-first.first ∷ c.in_ok-rest.rest.items = search rules in
    let first = CellWithin-Grows c.in_ok-rest.ensures.grows d c.in_ok-first.first c.in_ok-first.ensures.stands
    (c.in_ok-first.ensures.level d (low 0 z some) (high 0 z (omega (arith, c.requires.same_length))) begin) in
    let rest = c.in_ok-rest.ensures.level d (AllWithin-tail c.in_ok-first.ensures.grows d c.args.a.now c.requires.first low) (AllWithin-tail c.in_ok-first.ensures.grows d c.args.b.now c.requires.second high) in
    rw items (All-cons (CellWithin c.places.new.net d) c.in_ok-first.first c.in_ok-rest.rest.items first rest)

pub returns-in_err-first-clause-grows : goal.returns-in_err-first-clause-grows
returns-in_err-first-clause-grows c =
    let some : 0 < length c.args.a.now = search rules in
    Grows-weaken c.in_err-first.ensures.grows (omega arith) (omega arith)

pub returns-in_err-first-clause-stops : goal.returns-in_err-first-clause-stops
returns-in_err-first-clause-stops c =
    let some : 0 < length c.args.a.now = search rules in
    let p = err_from_is_err_and c.from_residual.result c.from_residual.ensures.1 in
    rw (p.1, p.2) (StopsWithin-after c.first_place.new.net 4 (4 * length c.args.a.now) _ (Grows-refl c.args.net.now) c.in_err-first.ensures.stops (omega arith))

pub returns-in_err-rest-clause-grows : goal.returns-in_err-rest-clause-grows
returns-in_err-rest-clause-grows c =
    let some : 0 < length c.args.a.now = search rules in
    Grows-then c.in_ok-first.ensures.grows c.in_err-rest.ensures.grows (omega (arith, rest_long c.args.a.now)) (omega (arith, rest_long c.args.a.now))

pub returns-in_err-rest-clause-stops : goal.returns-in_err-rest-clause-stops
returns-in_err-rest-clause-stops c =
    let some : 0 < length c.args.a.now = search rules in
    let p = err_from_is_err_and c.from_residual-in_err-rest.result c.from_residual-in_err-rest.ensures.1 in
    rw (p.1, p.2) (StopsWithin-after c.places.new.net (2 * length (take (length c.args.a.now - 1) (drop 1 c.args.a.now))) (4 * length c.args.a.now) _ c.in_ok-first.ensures.grows c.in_err-rest.ensures.stops (omega (arith, rest_long c.args.a.now)))

pub returns-in_err-push-clause-grows : goal.returns-in_err-push-clause-grows
returns-in_err-push-clause-grows c =
    let some : 0 < length c.args.a.now = search rules in
    Grows-then c.in_ok-first.ensures.grows c.in_ok-rest.ensures.grows (omega (arith, rest_long c.args.a.now)) (omega (arith, rest_long c.args.a.now))

pub returns-in_err-extend_from_slice-clause-grows : goal.returns-in_err-extend_from_slice-clause-grows
returns-in_err-extend_from_slice-clause-grows c =
    let some : 0 < length c.args.a.now = search rules in
    Grows-then c.in_ok-first.ensures.grows c.in_ok-rest.ensures.grows (omega (arith, rest_long c.args.a.now)) (omega (arith, rest_long c.args.a.now))

pub returns-clause-grows : goal.returns-clause-grows
returns-clause-grows c =
    let some : 0 < length c.args.a.now = search rules in
    Grows-then c.in_ok-first.ensures.grows c.in_ok-rest.ensures.grows (omega (arith, rest_long c.args.a.now)) (omega (arith, rest_long c.args.a.now))
