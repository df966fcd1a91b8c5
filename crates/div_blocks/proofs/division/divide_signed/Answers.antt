use Rattle.std.proofs.Common.{◌≡◌, ℕ, ◌+◌, ◌-◌, ◌*◌, ◌^◌, ◌<◌, Bool, false, List, length, get_or, sym, ap, ◌∙◌, arith}
use Rattle.std.proofs.lemmas.Result.{err_from_is_err_and}
use Rattle.std.proofs.lemmas.List.{length-map}
use Rattle.hy_bits.specs.Bits.{number, xor}
use Rattle.hy_bits.specs.Words.{word_div_u, word_div_s, word_rem_u, word_rem_s}
use Rattle.gate_net.specs.Meaning.{value}
use Rattle.gate_net.proofs.GrowthLaws.{Grows-stands, Grows-trans, Grows-then, StopsWithin-after}
use Rattle.gate_net.specs.Spelled.{values, spelled}
use Rattle.gate_net.proofs.ListLaws.{AllStand-Grows, values-Grows, equal_two, get_or-values, bit-at}
use Rattle.div_blocks.specs.Division.{signed_by}
use Rattle.div_blocks.proofs.SignLaws.{quotient-lists, remainder-lists, all-below, signs-room}
use Rattle.div_blocks.proofs.division.divide_signed.Goals as goal

pub divide_rows-requires-clause-short : goal.divide_rows-requires-clause-short
divide_rows-requires-clause-short c = λ bits.
    all-below c.with_sign-2.new.net bits c.deref-2.result.now (length c.deref.result.now)
    (ap length c.deref-2.ensures.value ∙ c.in_ok-divisor.ensures.same ∙ sym c.requires.same_length ∙ sym (ap length c.deref.ensures.value ∙ c.in_ok-dividend.ensures.same))

pub returns-in_err-quotient-clause-grows : goal.returns-in_err-quotient-clause-grows
returns-in_err-quotient-clause-grows c =
    let len1 : length c.deref.result.now ≡ length c.args.a.now = ap length c.deref.ensures.value ∙ c.in_ok-dividend.ensures.same in
    let fits = signs-room (length c.args.a.now) c.requires.some in
    let rows = rw len1 at c.in_err-quotient.ensures.grows in
    Grows-then (Grows-trans c.in_ok-dividend.ensures.grows c.in_ok-divisor.ensures.grows) rows (omega (arith, c.requires.same_length, fits.0)) (omega (arith, c.requires.same_length, fits.1))

pub returns-in_err-quotient-clause-stops : goal.returns-in_err-quotient-clause-stops
returns-in_err-quotient-clause-stops c =
    let p = err_from_is_err_and c.from_residual-in_err-quotient.result c.from_residual-in_err-quotient.ensures.1 in
    let len1 : length c.deref.result.now ≡ length c.args.a.now = ap length c.deref.ensures.value ∙ c.in_ok-dividend.ensures.same in
    let fits = signs-room (length c.args.a.now) c.requires.some in
    let stops = rw len1 at c.in_err-quotient.ensures.stops in
    rw (p.1, p.2) (StopsWithin-after c.divide_rows.new.net (3 * (length c.args.a.now * length c.args.a.now) + 5 * length c.args.a.now - 1) (3 * (length c.args.a.now * length c.args.a.now) + 17 * length c.args.a.now) _ (Grows-trans c.in_ok-dividend.ensures.grows c.in_ok-divisor.ensures.grows) stops (omega (arith, c.requires.same_length, fits.0)))

pub returns-in_err-differ-clause-grows : goal.returns-in_err-differ-clause-grows
returns-in_err-differ-clause-grows c =
    let len1 : length c.deref.result.now ≡ length c.args.a.now = ap length c.deref.ensures.value ∙ c.in_ok-dividend.ensures.same in
    let fits = signs-room (length c.args.a.now) c.requires.some in
    let rows = rw len1 at c.in_ok-quotient.ensures.grows in
    Grows-then (Grows-trans (Grows-trans c.in_ok-dividend.ensures.grows c.in_ok-divisor.ensures.grows) rows) c.in_err-differ.ensures.grows (omega (arith, c.requires.same_length, fits.0)) (omega (arith, c.requires.same_length, fits.1))

pub returns-in_err-differ-clause-stops : goal.returns-in_err-differ-clause-stops
returns-in_err-differ-clause-stops c =
    let p = err_from_is_err_and c.from_residual-in_err-differ.result c.from_residual-in_err-differ.ensures.1 in
    let len1 : length c.deref.result.now ≡ length c.args.a.now = ap length c.deref.ensures.value ∙ c.in_ok-dividend.ensures.same in
    let fits = signs-room (length c.args.a.now) c.requires.some in
    let rows = rw len1 at c.in_ok-quotient.ensures.grows in
    rw (p.1, p.2) (StopsWithin-after c.xor.new.self 1 (3 * (length c.args.a.now * length c.args.a.now) + 17 * length c.args.a.now) _ (Grows-trans (Grows-trans c.in_ok-dividend.ensures.grows c.in_ok-divisor.ensures.grows) rows) c.in_err-differ.ensures.stops (omega (arith, c.requires.same_length, c.requires.some, fits.0)))

pub returns-in_err-quotient-2-clause-grows : goal.returns-in_err-quotient-2-clause-grows
returns-in_err-quotient-2-clause-grows c =
    let len1 : length c.deref.result.now ≡ length c.args.a.now = ap length c.deref.ensures.value ∙ c.in_ok-dividend.ensures.same in
    let len3 : length c.deref-3.result.now ≡ length c.args.a.now = ap length c.deref-3.ensures.value ∙ c.in_ok-quotient.ensures.same.0 ∙ len1 in
    let fits = signs-room (length c.args.a.now) c.requires.some in
    let rows = rw len1 at c.in_ok-quotient.ensures.grows in
    Grows-then (Grows-trans (Grows-trans (Grows-trans c.in_ok-dividend.ensures.grows c.in_ok-divisor.ensures.grows) rows) c.in_ok-differ.ensures.grows) c.in_err-quotient-2.ensures.grows (omega (arith, c.requires.same_length, len3, fits.0)) (omega (arith, c.requires.same_length, len3, fits.1))

pub returns-in_err-quotient-2-clause-stops : goal.returns-in_err-quotient-2-clause-stops
returns-in_err-quotient-2-clause-stops c =
    let p = err_from_is_err_and c.from_residual-in_err-quotient-2.result c.from_residual-in_err-quotient-2.ensures.1 in
    let len1 : length c.deref.result.now ≡ length c.args.a.now = ap length c.deref.ensures.value ∙ c.in_ok-dividend.ensures.same in
    let len3 : length c.deref-3.result.now ≡ length c.args.a.now = ap length c.deref-3.ensures.value ∙ c.in_ok-quotient.ensures.same.0 ∙ len1 in
    let fits = signs-room (length c.args.a.now) c.requires.some in
    let rows = rw len1 at c.in_ok-quotient.ensures.grows in
    rw (p.1, p.2) (StopsWithin-after c.with_sign-3.new.net (3 * length c.deref-3.result.now) (3 * (length c.args.a.now * length c.args.a.now) + 17 * length c.args.a.now) _ (Grows-trans (Grows-trans (Grows-trans c.in_ok-dividend.ensures.grows c.in_ok-divisor.ensures.grows) rows) c.in_ok-differ.ensures.grows) c.in_err-quotient-2.ensures.stops (omega (arith, c.requires.same_length, len3, fits.0)))

pub returns-in_err-remainder-clause-grows : goal.returns-in_err-remainder-clause-grows
returns-in_err-remainder-clause-grows c =
    let len1 : length c.deref.result.now ≡ length c.args.a.now = ap length c.deref.ensures.value ∙ c.in_ok-dividend.ensures.same in
    let len3 : length c.deref-3.result.now ≡ length c.args.a.now = ap length c.deref-3.ensures.value ∙ c.in_ok-quotient.ensures.same.0 ∙ len1 in
    let len4 : length c.deref-4.result.now ≡ length c.args.a.now = ap length c.deref-4.ensures.value ∙ c.in_ok-quotient.ensures.same.1 ∙ len1 in
    let fits = signs-room (length c.args.a.now) c.requires.some in
    let rows = rw len1 at c.in_ok-quotient.ensures.grows in
    Grows-then (Grows-trans (Grows-trans (Grows-trans (Grows-trans c.in_ok-dividend.ensures.grows c.in_ok-divisor.ensures.grows) rows) c.in_ok-differ.ensures.grows) c.in_ok-quotient-2.ensures.grows) c.in_err-remainder.ensures.grows (omega (arith, c.requires.same_length, len3, len4, fits.0)) (omega (arith, c.requires.same_length, len3, len4, fits.1))

pub returns-in_err-remainder-clause-stops : goal.returns-in_err-remainder-clause-stops
returns-in_err-remainder-clause-stops c =
    let p = err_from_is_err_and c.from_residual-in_err-remainder.result c.from_residual-in_err-remainder.ensures.1 in
    let len1 : length c.deref.result.now ≡ length c.args.a.now = ap length c.deref.ensures.value ∙ c.in_ok-dividend.ensures.same in
    let len3 : length c.deref-3.result.now ≡ length c.args.a.now = ap length c.deref-3.ensures.value ∙ c.in_ok-quotient.ensures.same.0 ∙ len1 in
    let len4 : length c.deref-4.result.now ≡ length c.args.a.now = ap length c.deref-4.ensures.value ∙ c.in_ok-quotient.ensures.same.1 ∙ len1 in
    let fits = signs-room (length c.args.a.now) c.requires.some in
    let rows = rw len1 at c.in_ok-quotient.ensures.grows in
    rw (p.1, p.2) (StopsWithin-after c.with_sign-4.new.net (3 * length c.deref-4.result.now) (3 * (length c.args.a.now * length c.args.a.now) + 17 * length c.args.a.now) _ (Grows-trans (Grows-trans (Grows-trans (Grows-trans c.in_ok-dividend.ensures.grows c.in_ok-divisor.ensures.grows) rows) c.in_ok-differ.ensures.grows) c.in_ok-quotient-2.ensures.grows) c.in_err-remainder.ensures.stops (omega (arith, c.requires.same_length, len3, len4, fits.0)))

pub returns-clause-grows : goal.returns-clause-grows
returns-clause-grows c =
    let len1 : length c.deref.result.now ≡ length c.args.a.now = ap length c.deref.ensures.value ∙ c.in_ok-dividend.ensures.same in
    let len3 : length c.deref-3.result.now ≡ length c.args.a.now = ap length c.deref-3.ensures.value ∙ c.in_ok-quotient.ensures.same.0 ∙ len1 in
    let len4 : length c.deref-4.result.now ≡ length c.args.a.now = ap length c.deref-4.ensures.value ∙ c.in_ok-quotient.ensures.same.1 ∙ len1 in
    let fits = signs-room (length c.args.a.now) c.requires.some in
    let rows = rw len1 at c.in_ok-quotient.ensures.grows in
    Grows-then (Grows-trans (Grows-trans (Grows-trans (Grows-trans c.in_ok-dividend.ensures.grows c.in_ok-divisor.ensures.grows) rows) c.in_ok-differ.ensures.grows) c.in_ok-quotient-2.ensures.grows) c.in_ok-remainder.ensures.grows (omega (arith, c.requires.same_length, len3, len4, fits.0)) (omega (arith, c.requires.same_length, len3, len4, fits.1))

pub with_sign-requires-3-clause-word : goal.with_sign-requires-3-clause-word
with_sign-requires-3-clause-word c = rw c.deref-3.ensures.value (AllStand-Grows c.in_ok-differ.ensures.grows c.in_ok-quotient.quotient.items c.in_ok-quotient.ensures.stands.0)

pub with_sign-requires-4-clause-word : goal.with_sign-requires-4-clause-word
with_sign-requires-4-clause-word c = rw c.deref-4.ensures.value (AllStand-Grows (Grows-trans c.in_ok-differ.ensures.grows c.in_ok-quotient-2.ensures.grows) c.in_ok-quotient.left.items c.in_ok-quotient.ensures.stands.1)

pub with_sign-requires-4-clause-sign : goal.with_sign-requires-4-clause-sign
with_sign-requires-4-clause-sign c =
    let grown = Grows-trans (Grows-trans (Grows-trans (Grows-trans c.in_ok-dividend.ensures.grows c.in_ok-divisor.ensures.grows) c.in_ok-quotient.ensures.grows) c.in_ok-differ.ensures.grows) c.in_ok-quotient-2.ensures.grows in
    Grows-stands grown (get_or c.args.a.now (length c.args.a.now - 1) (record { code = 0 })) (c.requires.first (length c.args.a.now - 1) (record { code = 0 }) (omega (arith, c.requires.some)))

pub returns-clause-stands : goal.returns-clause-stands
returns-clause-stands c = (AllStand-Grows c.in_ok-remainder.ensures.grows c.in_ok-quotient-2.quotient.items c.in_ok-quotient-2.ensures.stands, c.in_ok-remainder.ensures.stands)

-- the quotient of the numbers without signs, and its sign
signed-quotient : (l k j : ℕ) (s t : Bool) (out q p d x y w : ℕ) → l ≡ j → k ≡ j → out ≡ signed_by (2 ^ l) s q → s ≡ t → q ≡ word_div_u (2 ^ k) p d → p ≡ x → d ≡ y → signed_by (2 ^ j) t (word_div_u (2 ^ j) x y) ≡ w → out ≡ w
signed-quotient l k j s t out q p d x y w long_l long_k made sign quotient first second is =
    made
    ∙ ap (λ (i : ℕ). signed_by (2 ^ i) s q) long_l
    ∙ ap (λ (b : Bool). signed_by (2 ^ j) b q) sign
    ∙ ap (signed_by (2 ^ j) t)
    (quotient ∙ ap (λ (i : ℕ). word_div_u (2 ^ i) p d) long_k ∙ ap (λ (u : ℕ). word_div_u (2 ^ j) u d) first ∙ ap (λ (u : ℕ). word_div_u (2 ^ j) x u) second)
    ∙ is

signed-remainder : (l j : ℕ) (s t : Bool) (out q p d x y w : ℕ) → l ≡ j → out ≡ signed_by (2 ^ l) s q → s ≡ t → q ≡ word_rem_u p d → p ≡ x → d ≡ y → signed_by (2 ^ j) t (word_rem_u x y) ≡ w → out ≡ w
signed-remainder l j s t out q p d x y w long made sign rest first second is =
    made
    ∙ ap (λ (i : ℕ). signed_by (2 ^ i) s q) long
    ∙ ap (λ (b : Bool). signed_by (2 ^ j) b q) sign
    ∙ ap (signed_by (2 ^ j) t) (rest ∙ ap (λ (u : ℕ). word_rem_u u d) first ∙ ap (λ (u : ℕ). word_rem_u x u) second)
    ∙ is

-- the numbers without signs, as the rows take them
dividend : (c : goal.After-drop-dividend-2) (bits : List Bool) → spelled c.with_sign-2.new.net bits c.deref.result.now ≡ signed_by (2 ^ length (values c.args.net.now bits c.args.a.now)) (get_or (values c.args.net.now bits c.args.a.now) (length (values c.args.net.now bits c.args.a.now) - 1) false) (spelled c.args.net.now bits c.args.a.now)
dividend c bits =
    let n = c.args.net.now in
    let at : length c.args.a.now - 1 < length c.args.a.now = omega (arith, c.requires.some) in
    let long : length (values n bits c.args.a.now) ≡ length c.args.a.now = length-map c.args.a.now (value n bits) in
    ap (spelled c.with_sign-2.new.net bits) c.deref.ensures.value
    ∙ ap number (values-Grows c.in_ok-divisor.ensures.grows bits c.in_ok-dividend.dividend.items c.in_ok-dividend.ensures.stands)
    ∙ c.in_ok-dividend.ensures.value bits
    ∙ ap (λ (s : Bool). signed_by (2 ^ length c.args.a.now) s (spelled n bits c.args.a.now)) (sym (get_or-values n bits c.args.a.now (length c.args.a.now - 1) (record { code = 0 }) false at))
    ∙ ap (λ (k : ℕ). signed_by (2 ^ k) (get_or (values n bits c.args.a.now) (k - 1) false) (spelled n bits c.args.a.now)) (sym long)

divisor : (c : goal.After-drop-dividend-2) (bits : List Bool) → spelled c.with_sign-2.new.net bits c.deref-2.result.now ≡ signed_by (2 ^ length (values c.args.net.now bits c.args.a.now)) (get_or (values c.args.net.now bits c.args.b.now) (length (values c.args.net.now bits c.args.a.now) - 1) false) (spelled c.args.net.now bits c.args.b.now)
divisor c bits =
    let n = c.args.net.now in
    let one = c.in_ok-dividend.ensures.grows in
    let at : length c.args.a.now - 1 < length c.args.b.now = omega (arith, c.requires.some, c.requires.same_length) in
    let long : length (values n bits c.args.a.now) ≡ length c.args.a.now = length-map c.args.a.now (value n bits) in
    ap (spelled c.with_sign-2.new.net bits) c.deref-2.ensures.value
    ∙ c.in_ok-divisor.ensures.value bits
    ∙ ap (λ (k : ℕ). signed_by (2 ^ k) (value c.with_sign.new.net bits (get_or c.args.b.now (length c.args.a.now - 1) (record { code = 0 }))) (spelled c.with_sign.new.net bits c.args.b.now)) (sym c.requires.same_length)
    ∙ ap (λ (s : Bool). signed_by (2 ^ length c.args.a.now) s (spelled c.with_sign.new.net bits c.args.b.now)) (bit-at one bits c.args.b.now (length c.args.a.now - 1) c.requires.second at)
    ∙ ap (λ (x : ℕ). signed_by (2 ^ length c.args.a.now) (get_or (values n bits c.args.b.now) (length c.args.a.now - 1) false) x) (ap number (values-Grows one bits c.args.b.now c.requires.second))
    ∙ ap (λ (k : ℕ). signed_by (2 ^ k) (get_or (values n bits c.args.b.now) (k - 1) false) (spelled n bits c.args.b.now)) (sym long)

pub returns-clause-quotient : goal.returns-clause-quotient
returns-clause-quotient c = λ bits.
    let n = c.args.net.now in
    let xs : List Bool = values n bits c.args.a.now in
    let ys : List Bool = values n bits c.args.b.now in
    let rows = Grows-trans (Grows-trans c.in_ok-dividend.ensures.grows c.in_ok-divisor.ensures.grows) c.in_ok-quotient.ensures.grows in
    let at_a : length c.args.a.now - 1 < length c.args.a.now = omega (arith, c.requires.some) in
    let at_b : length c.args.a.now - 1 < length c.args.b.now = omega (arith, c.requires.some, c.requires.same_length) in
    let long : length (values n bits c.args.a.now) ≡ length c.args.a.now = length-map c.args.a.now (value n bits) in
    let same : length (values n bits c.args.b.now) ≡ length (values n bits c.args.a.now) = length-map c.args.b.now (value n bits) ∙ sym c.requires.same_length ∙ sym long in
    let len1 : length c.deref.result.now ≡ length c.args.a.now = ap length c.deref.ensures.value ∙ c.in_ok-dividend.ensures.same in
    let len3 : length c.deref-3.result.now ≡ length c.args.a.now = ap length c.deref-3.ensures.value ∙ c.in_ok-quotient.ensures.same.0 ∙ len1 in
    let sign : value c.xor.new.self bits c.in_ok-differ.differ ≡ xor (get_or (values n bits c.args.a.now) (length (values n bits c.args.a.now) - 1) false) (get_or (values n bits c.args.b.now) (length (values n bits c.args.a.now) - 1) false) =
    c.in_ok-differ.ensures.value bits
    ∙ equal_two xor (bit-at rows bits c.args.a.now (length c.args.a.now - 1) c.requires.first at_a) (bit-at rows bits c.args.b.now (length c.args.a.now - 1) c.requires.second at_b)
    ∙ ap (λ (k : ℕ). xor (get_or xs (k - 1) false) (get_or ys (k - 1) false)) (sym long) in
    let quotient : spelled c.xor.new.self bits c.deref-3.result.now ≡ word_div_u (2 ^ length c.deref.result.now) (spelled c.with_sign-2.new.net bits c.deref.result.now) (spelled c.with_sign-2.new.net bits c.deref-2.result.now) =
    ap (spelled c.xor.new.self bits) c.deref-3.ensures.value
    ∙ ap number (values-Grows c.in_ok-differ.ensures.grows bits c.in_ok-quotient.quotient.items c.in_ok-quotient.ensures.stands.0)
    ∙ c.in_ok-quotient.ensures.quotient bits in
    ap number (values-Grows c.in_ok-remainder.ensures.grows bits c.in_ok-quotient-2.quotient.items c.in_ok-quotient-2.ensures.stands)
    ∙ signed-quotient _ _ (length xs) _ _ _ _ _ _ _ _ _ (len3 ∙ sym long) (len1 ∙ sym long) (c.in_ok-quotient-2.ensures.value bits) sign quotient (dividend c bits) (divisor c bits)
    (quotient-lists xs ys (omega (arith, long, c.requires.some)) same)
    ∙ ap (λ (k : ℕ). word_div_s (2 ^ k) (spelled n bits c.args.a.now) (spelled n bits c.args.b.now)) long

pub returns-clause-remainder : goal.returns-clause-remainder
returns-clause-remainder c = λ bits.
    let n = c.args.net.now in
    let xs : List Bool = values n bits c.args.a.now in
    let ys : List Bool = values n bits c.args.b.now in
    let grown = Grows-trans (Grows-trans (Grows-trans (Grows-trans c.in_ok-dividend.ensures.grows c.in_ok-divisor.ensures.grows) c.in_ok-quotient.ensures.grows) c.in_ok-differ.ensures.grows) c.in_ok-quotient-2.ensures.grows in
    let at_a : length c.args.a.now - 1 < length c.args.a.now = omega (arith, c.requires.some) in
    let long : length (values n bits c.args.a.now) ≡ length c.args.a.now = length-map c.args.a.now (value n bits) in
    let same : length (values n bits c.args.b.now) ≡ length (values n bits c.args.a.now) = length-map c.args.b.now (value n bits) ∙ sym c.requires.same_length ∙ sym long in
    let len1 : length c.deref.result.now ≡ length c.args.a.now = ap length c.deref.ensures.value ∙ c.in_ok-dividend.ensures.same in
    let len4 : length c.deref-4.result.now ≡ length c.args.a.now = ap length c.deref-4.ensures.value ∙ c.in_ok-quotient.ensures.same.1 ∙ len1 in
    let sign : value c.with_sign-3.new.net bits (get_or c.args.a.now (length c.args.a.now - 1) (record { code = 0 })) ≡ get_or (values n bits c.args.a.now) (length (values n bits c.args.a.now) - 1) false =
    bit-at grown bits c.args.a.now (length c.args.a.now - 1) c.requires.first at_a
    ∙ ap (λ (k : ℕ). get_or xs (k - 1) false) (sym long) in
    let rest : spelled c.with_sign-3.new.net bits c.deref-4.result.now ≡ word_rem_u (spelled c.with_sign-2.new.net bits c.deref.result.now) (spelled c.with_sign-2.new.net bits c.deref-2.result.now) =
    ap (spelled c.with_sign-3.new.net bits) c.deref-4.ensures.value
    ∙ ap number (values-Grows (Grows-trans c.in_ok-differ.ensures.grows c.in_ok-quotient-2.ensures.grows) bits c.in_ok-quotient.left.items c.in_ok-quotient.ensures.stands.1)
    ∙ c.in_ok-quotient.ensures.remainder bits in
    signed-remainder _ (length xs) _ _ _ _ _ _ _ _ _ (len4 ∙ sym long) (c.in_ok-remainder.ensures.value bits) sign rest (dividend c bits) (divisor c bits)
    (remainder-lists xs ys (omega (arith, long, c.requires.some)) same)
    ∙ ap (λ (k : ℕ). word_rem_s (2 ^ k) (spelled n bits c.args.a.now) (spelled n bits c.args.b.now)) long
