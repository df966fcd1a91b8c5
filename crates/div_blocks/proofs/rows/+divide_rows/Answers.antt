use Rattle.std.proofs.Common.{◌≡◌, ℕ, ◌+◌, ◌-◌, ◌*◌, ◌^◌, ◌<◌, Bool, false, not, ◌&&◌, nat_le, nat_lt, List, [], ◌∷◌, length, get_or, take, drop, refl, sym, ap, ◌∙◌, arith, rules}
use Rattle.std.proofs.lemmas.Result.{err_from_is_err_and}
use Rattle.std.proofs.lemmas.List.{length-map, length-drop, take_rest}
use Rattle.hy_bits.specs.Bits.{bit, number}
use Rattle.hy_bits.specs.Words.{word_div_u, word_rem_u}
use Rattle.hy_bits.proofs.BitLaws.{number-lt_of}
use Rattle.gate_net.specs.declared.literal.Lit.{Lit}
use Rattle.gate_net.specs.Circuit.{Circuit, Stands}
use Rattle.gate_net.specs.Meaning.{value}
use Rattle.gate_net.proofs.MeaningLaws.{value-complement}
use Rattle.gate_net.proofs.GrowthLaws.{Grows-value, Grows-stands, Grows-trans, Grows-then, StopsWithin-after}
use Rattle.gate_net.specs.Spelled.{values, spelled}
use Rattle.gate_net.proofs.ListLaws.{All-cons, AllStand-Grows, values-Grows, equal_two, get_or-values}
use Rattle.adder_blocks.proofs.TreeLaws.{All-take, All-drop}
use Rattle.div_blocks.specs.Division.{left_of}
use Rattle.div_blocks.proofs.RowLaws.{below-places, list-row, only-row, rows-room}
use Rattle.div_blocks.proofs.rows.+divide_rows.Goals as goal

shorter-says : (n : Circuit) (bits : List Bool) (b : List Lit) (j l : ℕ) (short shorter : Bool) → j < length b → l ≡ j + 1 → short ≡ nat_lt (spelled n bits b) (2 ^ l) → shorter ≡ (short && not (get_or (values n bits b) j false)) → shorter ≡ nat_lt (spelled n bits b) (2 ^ j)
shorter-says n bits b j l short shorter at long says is =
    is
    ∙ ap (λ (s : Bool). s && not (get_or (values n bits b) j false)) (says ∙ ap (λ (k : ℕ). nat_lt (spelled n bits b) (2 ^ k)) long)
    ∙ below-places (values n bits b) j (omega (arith, length-map b (value n bits)))

rest-length : (a : List Lit) → length (take (length a - 1) (drop 1 a)) ≡ length a - 1
rest-length a = ap length (take_rest a 1) ∙ length-drop 1 a

pub returns-then-places-eq1-clause-quotient : goal.returns-then-places-eq1-clause-quotient
returns-then-places-eq1-clause-quotient t c = λ bits.
    let one : c.in_ok-quotient.quotient.items ≡ c.in_ok-digit.digit ∷ [] = search rules in
    rw one (only-row c.args.net.now bits c.args.a.now c.args.b.now _ _ _ c.if-places-eq1.true refl (c.requires.short bits) (c.in_ok-digit.ensures.digit bits)).0

pub returns-then-places-eq1-clause-remainder : goal.returns-then-places-eq1-clause-remainder
returns-then-places-eq1-clause-remainder t c = λ bits.
    c.in_ok-digit.ensures.left bits
    ∙ (only-row c.args.net.now bits c.args.a.now c.args.b.now _ _ _ c.if-places-eq1.true refl (c.requires.short bits) (c.in_ok-digit.ensures.digit bits)).1

pub divide_rows-requires : goal.divide_rows-requires
divide_rows-requires t c =
    let n = c.args.net.now in
    let one = c.in_ok-shorter.ensures.grows in
    let few = rest-length c.args.a.now in
    let at : length c.args.a.now - 1 < length c.args.b.now = omega (arith, c.requires.some, c.requires.within) in
    let next : length c.args.a.now ≡ length c.args.a.now - 1 + 1 = omega (arith, c.requires.some) in (
      search rules,
      (
        rw (take_rest c.args.a.now 1) (All-drop (Stands c.and.new.self) 1 c.args.a.now (AllStand-Grows one c.args.a.now c.requires.first)),
        (
          AllStand-Grows one c.args.b.now c.requires.second,
          (
            c.in_ok-shorter.ensures.stands,
            (
              omega (arith, few, c.requires.some, c.if-places-eq1.false),
              (
                omega (arith, few, c.requires.within),
                (λ bits.
                    let made = rw c.complement.ensures at (c.in_ok-shorter.ensures.value bits) in
                    let digit = value-complement n bits (get_or c.args.b.now (length c.args.a.now - 1) (record { code = 0 }))
                    ∙ ap not (sym (get_or-values n bits c.args.b.now (length c.args.a.now - 1) (record { code = 0 }) false at)) in
                    shorter-says n bits c.args.b.now (length c.args.a.now - 1) (length c.args.a.now) _ _ at next (c.requires.short bits) (made ∙ ap (λ (x : Bool). value n bits c.args.short && x) digit)
                    ∙ ap (λ (x : ℕ). nat_lt x (2 ^ (length c.args.a.now - 1))) (sym (ap number (values-Grows one bits c.args.b.now c.requires.second)))
                    ∙ ap (λ (k : ℕ). nat_lt (spelled c.and.new.self bits c.args.b.now) (2 ^ k)) (sym few)),
              ),
            ),
          ),
        ),
      ),
    )

pub returns-in_err-quotient-2-clause-grows : goal.returns-in_err-quotient-2-clause-grows
returns-in_err-quotient-2-clause-grows t c =
    let fits = rows-room (length c.args.a.now) (length c.args.a.now - 1) (omega (arith, c.requires.some)) (omega (arith, c.requires.some, c.if-places-eq1.false)) in
    let grows = rw (rest-length c.args.a.now) at c.in_err-quotient-2.ensures.grows in
    Grows-then c.in_ok-shorter.ensures.grows grows (omega (arith, fits.0)) (omega (arith, fits.1))

pub returns-in_err-quotient-2-clause-stops : goal.returns-in_err-quotient-2-clause-stops
returns-in_err-quotient-2-clause-stops t c =
    let p = err_from_is_err_and c.from_residual-in_err-quotient-2.result c.from_residual-in_err-quotient-2.ensures.1 in
    let fits = rows-room (length c.args.a.now) (length c.args.a.now - 1) (omega (arith, c.requires.some)) (omega (arith, c.requires.some, c.if-places-eq1.false)) in
    let stops = rw (rest-length c.args.a.now) at c.in_err-quotient-2.ensures.stops in
    rw (p.1, p.2) (StopsWithin-after c.divide_rows.new.net (3 * ((length c.args.a.now - 1) * (length c.args.a.now - 1)) + 5 * (length c.args.a.now - 1) - 1) (3 * (length c.args.a.now * length c.args.a.now) + 5 * length c.args.a.now - 1) _ c.in_ok-shorter.ensures.grows stops (omega (arith, fits.0)))

pub returns-in_err-insert-clause-grows : goal.returns-in_err-insert-clause-grows
returns-in_err-insert-clause-grows t c =
    let fits = rows-room (length c.args.a.now) (length c.args.a.now - 1) (omega (arith, c.requires.some)) (omega (arith, c.requires.some, c.if-places-eq1.false)) in
    let grows = rw (rest-length c.args.a.now) at c.in_ok-quotient-2.ensures.grows in
    Grows-then c.in_ok-shorter.ensures.grows grows (omega (arith, fits.0)) (omega (arith, fits.1))

pub row-requires-2-clause-whole : goal.row-requires-2-clause-whole
row-requires-2-clause-whole t c =
    rw (c.deref.ensures.value, c.in_ok-insert.ensures.items)
    (All-cons (Stands c.divide_rows.new.net) (get_or c.args.a.now 0 (record { code = 0 })) c.in_ok-quotient-2.whole.items
    (Grows-stands (Grows-trans c.in_ok-shorter.ensures.grows c.in_ok-quotient-2.ensures.grows) (get_or c.args.a.now 0 (record { code = 0 })) (c.requires.first 0 (record { code = 0 }) c.requires.some))
    c.in_ok-quotient-2.ensures.stands.1)

pub row-requires-2-clause-low : goal.row-requires-2-clause-low
row-requires-2-clause-low t c =
    All-take (Stands c.divide_rows.new.net) (length c.args.a.now) c.args.b.now (AllStand-Grows (Grows-trans c.in_ok-shorter.ensures.grows c.in_ok-quotient-2.ensures.grows) c.args.b.now c.requires.second)

pub returns-in_err-digit-2-clause-grows : goal.returns-in_err-digit-2-clause-grows
returns-in_err-digit-2-clause-grows t c =
    let fits = rows-room (length c.args.a.now) (length c.args.a.now - 1) (omega (arith, c.requires.some)) (omega (arith, c.requires.some, c.if-places-eq1.false)) in
    let grows = rw (rest-length c.args.a.now) at c.in_ok-quotient-2.ensures.grows in
    let long : length c.deref.result.now ≡ length c.args.a.now = ap length c.deref.ensures.value ∙ ap length c.in_ok-insert.ensures.items ∙ omega (arith, c.in_ok-quotient-2.ensures.same.1, rest-length c.args.a.now, c.requires.some) in
    Grows-then (Grows-trans c.in_ok-shorter.ensures.grows grows) c.in_err-digit-2.ensures.grows (omega (arith, fits.0, long)) (omega (arith, fits.1, long))

pub returns-in_err-digit-2-clause-stops : goal.returns-in_err-digit-2-clause-stops
returns-in_err-digit-2-clause-stops t c =
    let p = err_from_is_err_and c.from_residual-in_err-digit-2.result c.from_residual-in_err-digit-2.ensures.1 in
    let fits = rows-room (length c.args.a.now) (length c.args.a.now - 1) (omega (arith, c.requires.some)) (omega (arith, c.requires.some, c.if-places-eq1.false)) in
    let grows = rw (rest-length c.args.a.now) at c.in_ok-quotient-2.ensures.grows in
    let long : length c.deref.result.now ≡ length c.args.a.now = ap length c.deref.ensures.value ∙ ap length c.in_ok-insert.ensures.items ∙ omega (arith, c.in_ok-quotient-2.ensures.same.1, rest-length c.args.a.now, c.requires.some) in
    rw (p.1, p.2) (StopsWithin-after c.row-2.new.net (6 * length c.deref.result.now + 1) (3 * (length c.args.a.now * length c.args.a.now) + 5 * length c.args.a.now - 1) _ (Grows-trans c.in_ok-shorter.ensures.grows grows) c.in_err-digit-2.ensures.stops (omega (arith, fits.0, long)))

pub returns-in_err-insert-2-clause-grows : goal.returns-in_err-insert-2-clause-grows
returns-in_err-insert-2-clause-grows t c =
    let fits = rows-room (length c.args.a.now) (length c.args.a.now - 1) (omega (arith, c.requires.some)) (omega (arith, c.requires.some, c.if-places-eq1.false)) in
    let grows = rw (rest-length c.args.a.now) at c.in_ok-quotient-2.ensures.grows in
    let long : length c.deref.result.now ≡ length c.args.a.now = ap length c.deref.ensures.value ∙ ap length c.in_ok-insert.ensures.items ∙ omega (arith, c.in_ok-quotient-2.ensures.same.1, rest-length c.args.a.now, c.requires.some) in
    Grows-then (Grows-trans c.in_ok-shorter.ensures.grows grows) c.in_ok-digit-2.ensures.grows (omega (arith, fits.0, long)) (omega (arith, fits.1, long))

pub returns-clause-grows : goal.returns-clause-grows
returns-clause-grows t c =
    let fits = rows-room (length c.args.a.now) (length c.args.a.now - 1) (omega (arith, c.requires.some)) (omega (arith, c.requires.some, c.if-places-eq1.false)) in
    let grows = rw (rest-length c.args.a.now) at c.in_ok-quotient-2.ensures.grows in
    let long : length c.deref.result.now ≡ length c.args.a.now = ap length c.deref.ensures.value ∙ ap length c.in_ok-insert.ensures.items ∙ omega (arith, c.in_ok-quotient-2.ensures.same.1, rest-length c.args.a.now, c.requires.some) in
    Grows-then (Grows-trans c.in_ok-shorter.ensures.grows grows) c.in_ok-digit-2.ensures.grows (omega (arith, fits.0, long)) (omega (arith, fits.1, long))

pub returns-clause-stands : goal.returns-clause-stands
returns-clause-stands t c =
    rw c.in_ok-insert-2.ensures.items (
      All-cons (Stands c.row-2.new.net) c.in_ok-digit-2.digit c.in_ok-quotient-2.quotient.items c.in_ok-digit-2.ensures.stands.0 (AllStand-Grows c.in_ok-digit-2.ensures.grows c.in_ok-quotient-2.quotient.items c.in_ok-quotient-2.ensures.stands.0),
      c.in_ok-digit-2.ensures.stands.1,
    )

-- the whole that the row takes: the lowest digit, and twice what is left of the higher ones
taken : (t : ℕ) (c : goal.After-drop-whole-2 t) (bits : List Bool) → spelled c.divide_rows.new.net bits c.deref.result.now ≡ bit (value c.args.net.now bits (get_or c.args.a.now 0 (record { code = 0 }))) + 2 * spelled c.divide_rows.new.net bits c.in_ok-quotient-2.whole.items
taken t c bits =
    let both = Grows-trans c.in_ok-shorter.ensures.grows c.in_ok-quotient-2.ensures.grows in
    let first = Grows-value both bits (get_or c.args.a.now 0 (record { code = 0 })) (c.requires.first 0 (record { code = 0 }) c.requires.some) in
    ap (spelled c.divide_rows.new.net bits) (c.deref.ensures.value ∙ c.in_ok-insert.ensures.items)
    ∙ ap (λ (x : Bool). bit x + 2 * spelled c.divide_rows.new.net bits c.in_ok-quotient-2.whole.items) first

low-kept : (t : ℕ) (c : goal.After-drop-whole-2 t) (bits : List Bool) → spelled c.divide_rows.new.net bits (take (length c.args.a.now) c.args.b.now) ≡ spelled c.args.net.now bits (take (length c.args.a.now) c.args.b.now)
low-kept t c bits =
    ap number (values-Grows (Grows-trans c.in_ok-shorter.ensures.grows c.in_ok-quotient-2.ensures.grows) bits (take (length c.args.a.now) c.args.b.now) (All-take (Stands c.args.net.now) (length c.args.a.now) c.args.b.now c.requires.second))

made : (t : ℕ) (c : goal.After-drop-whole-2 t) (bits : List Bool) →
    (bit (value c.row-2.new.net bits c.in_ok-digit-2.digit) + 2 * spelled c.divide_rows.new.net bits c.in_ok-quotient-2.quotient.items ≡ word_div_u (2 ^ length c.args.a.now) (spelled c.args.net.now bits c.args.a.now) (spelled c.args.net.now bits c.args.b.now))
    × (left_of (value c.row-2.new.net bits c.in_ok-digit-2.digit) (bit (value c.args.net.now bits (get_or c.args.a.now 0 (record { code = 0 }))) + 2 * spelled c.divide_rows.new.net bits c.in_ok-quotient-2.whole.items) (spelled c.args.net.now bits (take (length c.args.a.now) c.args.b.now)) ≡ word_rem_u (spelled c.args.net.now bits c.args.a.now) (spelled c.args.net.now bits c.args.b.now))
made t c bits =
    let n = c.args.net.now in
    let one = c.in_ok-shorter.ensures.grows in
    let both = Grows-trans one c.in_ok-quotient-2.ensures.grows in
    let k : ℕ = length c.args.a.now - 1 in
    let next : length c.args.a.now ≡ length c.args.a.now - 1 + 1 = omega (arith, c.requires.some) in
    let high : spelled c.and.new.self bits (drop 1 c.args.a.now) ≡ spelled n bits (drop 1 c.args.a.now) = ap number (values-Grows one bits (drop 1 c.args.a.now) (All-drop (Stands n) 1 c.args.a.now c.requires.first)) in
    let divisor : spelled c.and.new.self bits c.args.b.now ≡ spelled n bits c.args.b.now = ap number (values-Grows one bits c.args.b.now c.requires.second) in
    let few : length (drop 1 c.args.a.now) ≡ length c.args.a.now - 1 = length-drop 1 c.args.a.now in
    let quotient = rw (take_rest c.args.a.now 1) at (c.in_ok-quotient-2.ensures.quotient bits) in
    let rest = rw (take_rest c.args.a.now 1) at (c.in_ok-quotient-2.ensures.remainder bits) in
    let long : length c.in_ok-quotient-2.whole.items ≡ length c.args.a.now - 1 = c.in_ok-quotient-2.ensures.same.1 ∙ rest-length c.args.a.now in
    list-row n bits c.args.a.now c.args.b.now (take (length c.args.a.now) c.args.b.now) (record { code = 0 }) (spelled c.divide_rows.new.net bits c.in_ok-quotient-2.quotient.items) (spelled c.divide_rows.new.net bits c.in_ok-quotient-2.whole.items) k _ (value n bits c.args.short)
    next
    (ap (λ (j : ℕ). take j c.args.b.now) next)
    (number-lt_of k (values c.divide_rows.new.net bits c.in_ok-quotient-2.whole.items) (sym (length-map c.in_ok-quotient-2.whole.items (value c.divide_rows.new.net bits) ∙ long)))
    (quotient
    ∙ ap (λ (j : ℕ). word_div_u (2 ^ j) (spelled c.and.new.self bits (drop 1 c.args.a.now)) (spelled c.and.new.self bits c.args.b.now)) few
    ∙ ap (λ (x : ℕ). word_div_u (2 ^ k) x (spelled c.and.new.self bits c.args.b.now)) high
    ∙ ap (λ (x : ℕ). word_div_u (2 ^ k) (spelled n bits (drop 1 c.args.a.now)) x) divisor)
    (rest
    ∙ ap (λ (x : ℕ). word_rem_u x (spelled c.and.new.self bits c.args.b.now)) high
    ∙ ap (λ (x : ℕ). word_rem_u (spelled n bits (drop 1 c.args.a.now)) x) divisor)
    (c.requires.short bits)
    (c.in_ok-digit-2.ensures.digit bits
    ∙ equal_two (λ x y. x && y)
    (ap (λ (x : ℕ). nat_le x (spelled c.divide_rows.new.net bits c.deref.result.now)) (low-kept t c bits)
    ∙ ap (λ (x : ℕ). nat_le (spelled n bits (take (length c.args.a.now) c.args.b.now)) x) (taken t c bits))
    (Grows-value both bits c.args.short c.requires.third))

pub returns-clause-quotient : goal.returns-clause-quotient
returns-clause-quotient t c = λ bits.
    let kept : spelled c.row-2.new.net bits c.in_ok-quotient-2.quotient.items ≡ spelled c.divide_rows.new.net bits c.in_ok-quotient-2.quotient.items = ap number (values-Grows c.in_ok-digit-2.ensures.grows bits c.in_ok-quotient-2.quotient.items c.in_ok-quotient-2.ensures.stands.0) in
    rw c.in_ok-insert-2.ensures.items
    (ap (λ (x : ℕ). bit (value c.row-2.new.net bits c.in_ok-digit-2.digit) + 2 * x) kept ∙ (made t c bits).0)

pub returns-clause-remainder : goal.returns-clause-remainder
returns-clause-remainder t c = λ bits.
    c.in_ok-digit-2.ensures.left bits
    ∙ ap (λ (x : ℕ). left_of (value c.row-2.new.net bits c.in_ok-digit-2.digit) x (spelled c.divide_rows.new.net bits (take (length c.args.a.now) c.args.b.now))) (taken t c bits)
    ∙ ap (λ (x : ℕ). left_of (value c.row-2.new.net bits c.in_ok-digit-2.digit) (bit (value c.args.net.now bits (get_or c.args.a.now 0 (record { code = 0 }))) + 2 * spelled c.divide_rows.new.net bits c.in_ok-quotient-2.whole.items) x) (low-kept t c bits)
    ∙ (made t c bits).1
