use Rattle.hy_bits.specs.Sizes.{adder_size}
use Rattle.std.proofs.Common.{◌≡◌, ◌+◌, ◌*◌, ◌-◌, ◌≤◌, Bool, false, map, suc, List, ◌∷◌, length, take, sym, ap, ◌∙◌, arith}
use Rattle.std.proofs.lemmas.Result.{err_from_is_err_and}
use Rattle.std.proofs.lemmas.List.{length-map, length-take-le, take-map}
use Rattle.hy_bits.specs.Bits.{bitwise_three, sum_bit}
use Rattle.gate_net.specs.declared.literal.Lit.{Lit}
use Rattle.gate_net.specs.Circuit.{Stands}
use Rattle.gate_net.specs.Meaning.{value, level}
use Rattle.gate_net.specs.Spelled.{values, AllWithin}
use Rattle.gate_net.proofs.GrowthLaws.{Grows-value, Grows-level, Grows-stands, Grows-trans, Grows-then, StopsWithin-after}
use Rattle.gate_net.proofs.ListLaws.{All-cons, AllWithin-Grows, values-Grows, AllStand-Grows}
use Rattle.adder_blocks.specs.declared.lookahead.Cell.{Cell}
use Rattle.adder_blocks.specs.Cells.{carries, carries_into, carries_out}
use Rattle.adder_blocks.proofs.CellLaws.{ahead_gates, AllStand-generate, AllWithin-generate, carries_into-front, sum_bits-into, values-generate}
use Rattle.adder_blocks.proofs.TreeLaws.{All-take, within_power}
use Rattle.adder_blocks.proofs.lookahead.lookahead_sum.Goals as goal

-- all places but the top one
cut : (ls : List Lit) → length (take (length ls - 1) ls) ≡ length ls - 1
cut ls = length-take-le (length ls - 1) ls (omega arith)

pub returns-in_err-fronts-clause-grows : goal.returns-in_err-fronts-clause-grows
returns-in_err-fronts-clause-grows c = λ k small.
    let long : length c.deref.result.now ≡ length c.args.a.now - 1 = ap length c.deref.ensures.value ∙ c.in_ok-cells.ensures.same ∙ cut c.args.a.now in
    let total = ahead_gates (length c.deref.result.now) (length c.args.a.now) k (omega (arith, long)) in
    Grows-then c.in_ok-cells.ensures.grows (c.in_err-fronts.ensures.grows k (omega (arith, long, small))) (omega (arith, total, long, cut c.args.a.now)) (omega (arith, total, long, cut c.args.a.now))

pub returns-in_err-fronts-clause-stops : goal.returns-in_err-fronts-clause-stops
returns-in_err-fronts-clause-stops c =
    let p = err_from_is_err_and c.from_residual-in_err-fronts.result c.from_residual-in_err-fronts.ensures.1 in
    rw (p.1, p.2) (λ k small.
    let long : length c.deref.result.now ≡ length c.args.a.now - 1 = ap length c.deref.ensures.value ∙ c.in_ok-cells.ensures.same ∙ cut c.args.a.now in
    let total = ahead_gates (length c.deref.result.now) (length c.args.a.now) k (omega (arith, long)) in
    StopsWithin-after c.prefixes.new.net (3 * (length c.deref.result.now * k)) (adder_size (length c.args.a.now) k) _ c.in_ok-cells.ensures.grows (c.in_err-fronts.ensures.stops k (omega (arith, long, small))) (omega (arith, total, long, cut c.args.a.now)))

pub returns-in_err-into-clause-grows : goal.returns-in_err-into-clause-grows
returns-in_err-into-clause-grows c = λ k small.
    let long : length c.deref.result.now ≡ length c.args.a.now - 1 = ap length c.deref.ensures.value ∙ c.in_ok-cells.ensures.same ∙ cut c.args.a.now in
    let total = ahead_gates (length c.deref.result.now) (length c.args.a.now) k (omega (arith, long)) in
    Grows-then c.in_ok-cells.ensures.grows (c.in_ok-fronts.ensures.grows k (omega (arith, long, small))) (omega (arith, total, long, cut c.args.a.now)) (omega (arith, total, long, cut c.args.a.now))

pub sum_places-requires-clause-first : goal.sum_places-requires-clause-first
sum_places-requires-clause-first c =
    let long : length c.deref.result.now ≡ length c.args.a.now - 1 = ap length c.deref.ensures.value ∙ c.in_ok-cells.ensures.same ∙ cut c.args.a.now in
    let two = Grows-trans c.in_ok-cells.ensures.grows (c.in_ok-fronts.ensures.grows (length c.args.a.now) (omega (arith, long, within_power (length c.args.a.now)))) in
    AllStand-Grows two c.args.a.now c.requires.first

pub sum_places-requires-clause-second : goal.sum_places-requires-clause-second
sum_places-requires-clause-second c =
    let long : length c.deref.result.now ≡ length c.args.a.now - 1 = ap length c.deref.ensures.value ∙ c.in_ok-cells.ensures.same ∙ cut c.args.a.now in
    let two = Grows-trans c.in_ok-cells.ensures.grows (c.in_ok-fronts.ensures.grows (length c.args.a.now) (omega (arith, long, within_power (length c.args.a.now)))) in
    AllStand-Grows two c.args.b.now c.requires.second

pub sum_places-requires-clause-third : goal.sum_places-requires-clause-third
sum_places-requires-clause-third c =
    let long : length c.deref.result.now ≡ length c.args.a.now - 1 = ap length c.deref.ensures.value ∙ c.in_ok-cells.ensures.same ∙ cut c.args.a.now in
    let two = Grows-trans c.in_ok-cells.ensures.grows (c.in_ok-fronts.ensures.grows (length c.args.a.now) (omega (arith, long, within_power (length c.args.a.now)))) in
    rw (c.deref-3.ensures.value, c.in_ok-into.ensures, c.deref-2.ensures.value)
    (All-cons (Stands c.prefixes.new.net) c.args.start (map (λ (x : Cell). x.generate) c.in_ok-fronts.fronts.items) (Grows-stands two c.args.start c.requires.carry) (AllStand-generate c.prefixes.new.net c.in_ok-fronts.fronts.items c.in_ok-fronts.ensures.stands))

pub returns-in_err-out-clause-grows : goal.returns-in_err-out-clause-grows
returns-in_err-out-clause-grows c = λ k small.
    let long : length c.deref.result.now ≡ length c.args.a.now - 1 = ap length c.deref.ensures.value ∙ c.in_ok-cells.ensures.same ∙ cut c.args.a.now in
    let total = ahead_gates (length c.deref.result.now) (length c.args.a.now) k (omega (arith, long)) in
    Grows-then (Grows-trans c.in_ok-cells.ensures.grows (c.in_ok-fronts.ensures.grows k (omega (arith, long, small)))) c.in_err-out.ensures.grows (omega (arith, total, long, cut c.args.a.now)) (omega (arith, total, long, cut c.args.a.now))

pub returns-in_err-out-clause-stops : goal.returns-in_err-out-clause-stops
returns-in_err-out-clause-stops c =
    let p = err_from_is_err_and c.from_residual-in_err-out.result c.from_residual-in_err-out.ensures.1 in
    rw (p.1, p.2) (λ k small.
    let long : length c.deref.result.now ≡ length c.args.a.now - 1 = ap length c.deref.ensures.value ∙ c.in_ok-cells.ensures.same ∙ cut c.args.a.now in
    let total = ahead_gates (length c.deref.result.now) (length c.args.a.now) k (omega (arith, long)) in
    StopsWithin-after c.sum_places.new.net (2 * length c.args.a.now) (adder_size (length c.args.a.now) k) _ (Grows-trans c.in_ok-cells.ensures.grows (c.in_ok-fronts.ensures.grows k (omega (arith, long, small)))) c.in_err-out.ensures.stops (omega (arith, total, long, cut c.args.a.now)))

pub returns-clause-grows : goal.returns-clause-grows
returns-clause-grows c = λ k small.
    let long : length c.deref.result.now ≡ length c.args.a.now - 1 = ap length c.deref.ensures.value ∙ c.in_ok-cells.ensures.same ∙ cut c.args.a.now in
    let total = ahead_gates (length c.deref.result.now) (length c.args.a.now) k (omega (arith, long)) in
    Grows-then (Grows-trans c.in_ok-cells.ensures.grows (c.in_ok-fronts.ensures.grows k (omega (arith, long, small)))) c.in_ok-out.ensures.grows (omega (arith, total, long, cut c.args.a.now)) (omega (arith, total, long, cut c.args.a.now))

equal_lists : (f : Bool → Bool → Bool → Bool) {xs ys zs us vs ws : List Bool} → xs ≡ us → ys ≡ vs → zs ≡ ws → bitwise_three f xs ys zs ≡ bitwise_three f us vs ws
equal_lists f {ys = ys} {zs = zs} {us = us} {vs = vs} p q r = ap (λ (k : List Bool). bitwise_three f k ys zs) p ∙ ap (λ (k : List Bool). bitwise_three f us k zs) q ∙ ap (λ (k : List Bool). bitwise_three f us vs k) r

pub returns-clause-value : goal.returns-clause-value
returns-clause-value c = λ bits.
    let n = c.args.net.now in
    let p = c.prefixes.new.net in
    let top = length c.args.a.now - 1 in
    let start = value n bits c.args.start in
    let long : length c.deref.result.now ≡ length c.args.a.now - 1 = ap length c.deref.ensures.value ∙ c.in_ok-cells.ensures.same ∙ cut c.args.a.now in
    let two = Grows-trans c.in_ok-cells.ensures.grows (c.in_ok-fronts.ensures.grows (length c.args.a.now) (omega (arith, long, within_power (length c.args.a.now)))) in
    let wide_a : length (values n bits c.args.a.now) ≡ length c.args.a.now = length-map c.args.a.now (value n bits) in
    let wide_b : length (values n bits c.args.b.now) ≡ length c.args.a.now = length-map c.args.b.now (value n bits) ∙ sym c.requires.same_length in
    let whole : suc (length c.args.a.now - 1) ≡ length c.args.a.now = omega (arith, c.requires.some) in
    let made : carries c.cells.new.net bits c.deref.result.now false ≡ carries_out start (take top (values n bits c.args.a.now)) (take top (values n bits c.args.b.now)) =
    rw c.deref.ensures.value (c.in_ok-cells.ensures.value bits false)
    ∙ ap (λ (xs : List Bool). carries_out start xs (values n bits (take top c.args.b.now))) (sym (take-map (value n bits) top c.args.a.now))
    ∙ ap (λ (ys : List Bool). carries_out start (take top (values n bits c.args.a.now)) ys) (sym (take-map (value n bits) top c.args.b.now)) in
    let into : values p bits c.deref-3.result.now ≡ carries_into start (values n bits c.args.a.now) (values n bits c.args.b.now) =
    ap (values p bits) (c.deref-3.ensures.value ∙ c.in_ok-into.ensures)
    ∙ ap (λ (s : Bool). s ∷ values p bits (map (λ (x : Cell). x.generate) c.deref-2.result.now)) (Grows-value two bits c.args.start c.requires.carry)
    ∙ ap (λ (ss : List Bool). start ∷ ss)
    (values-generate p bits c.deref-2.result.now ∙ rw c.deref-2.ensures.value (c.in_ok-fronts.ensures.value bits false) ∙ made)
    ∙ carries_into-front start (values n bits c.args.a.now) (values n bits c.args.b.now) top (wide_a ∙ sym whole) (wide_b ∙ sym whole) in
    c.in_ok-out.ensures.value bits
    ∙ equal_lists sum_bit (values-Grows two bits c.args.a.now c.requires.first) (values-Grows two bits c.args.b.now c.requires.second) into
    ∙ sum_bits-into start (values n bits c.args.a.now) (values n bits c.args.b.now) (wide_a ∙ sym wide_b)

pub returns-clause-level : goal.returns-clause-level
returns-clause-level c = λ d k small low high begin.
    let n = c.args.net.now in
    let p = c.prefixes.new.net in
    let top = length c.args.a.now - 1 in
    let long : length c.deref.result.now ≡ length c.args.a.now - 1 = ap length c.deref.ensures.value ∙ c.in_ok-cells.ensures.same ∙ cut c.args.a.now in
    let two = Grows-trans c.in_ok-cells.ensures.grows (c.in_ok-fronts.ensures.grows (length c.args.a.now) (omega (arith, long, within_power (length c.args.a.now)))) in
    let cells = c.in_ok-cells.ensures.level d (All-take (λ l. level n l ≤ d) top c.args.a.now low) (All-take (λ l. level n l ≤ d) top c.args.b.now high) begin in
    let fronts = c.in_ok-fronts.ensures.level d k (omega (arith, long, small)) (rw c.deref.ensures.value cells) in
    let into : AllWithin p (d + k + 1) c.deref-3.result.now =
    rw (c.deref-3.ensures.value, c.in_ok-into.ensures, c.deref-2.ensures.value)
    (All-cons (λ l. level p l ≤ d + k + 1) c.args.start (map (λ (x : Cell). x.generate) c.in_ok-fronts.fronts.items) (omega (arith, Grows-level two c.args.start c.requires.carry, begin)) (AllWithin-generate p (d + k) c.in_ok-fronts.fronts.items fronts)) in
    let out = c.in_ok-out.ensures.level (d + k + 1)
    (λ i e l. omega (arith, AllWithin-Grows two d c.args.a.now c.requires.first low i e l))
    (λ i e l. omega (arith, AllWithin-Grows two d c.args.b.now c.requires.second high i e l))
    into in
    λ i e l. omega (arith, out i e l)
