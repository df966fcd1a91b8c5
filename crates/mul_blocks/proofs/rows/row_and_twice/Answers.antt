use Rattle.hy_bits.specs.Sizes.{adder_size}
use Rattle.std.proofs.Common.{◌≡◌, ℕ, ◌+◌, ◌-◌, ◌*◌, ◌/◌, ◌%◌, ◌^◌, ◌<◌, Bool, List, ◌++◌, length, take, drop, refl, sym, ap, ◌∙◌, arith}
use Rattle.std.proofs.lemmas.Result.{err_from_is_err_and}
use Rattle.std.proofs.lemmas.List.{map-append, length-map, length-take-le, length-drop, take-map, drop-map, take_rest}
use Rattle.std.proofs.lemmas.List.Elements.{All-append}
use Rattle.hy_bits.specs.Bits.{bit, number}
use Rattle.hy_bits.specs.Words.{word_add}
use Rattle.hy_bits.proofs.BitLaws.{number-append, number-take, number-drop, number-row}
use Rattle.gate_net.specs.declared.literal.Lit.{Lit}
use Rattle.gate_net.specs.declared.netlist.GateFault.{GateFault}
use Rattle.gate_net.specs.declared.netlist.GateFault.TheVariants.{GateLimit, Memory}
use Rattle.gate_net.specs.Circuit.{Circuit, Stands}
use Rattle.gate_net.specs.Meaning.{value}
use Rattle.gate_net.specs.Growth.{Grows, StopsWithin}
use Rattle.gate_net.proofs.GrowthLaws.{Grows-length, StopsWithin-after, Grows-refl, Grows-then, Grows-weaken}
use Rattle.gate_net.specs.Spelled.{values, spelled}
use Rattle.gate_net.proofs.ListLaws.{AllStand-Grows, values-Grows}
use Rattle.adder_blocks.proofs.TreeLaws.{All-take, within_power}
use Rattle.mul_blocks.proofs.ModLaws.{half-plus}
use Rattle.mul_blocks.proofs.rows.row_and_twice.Goals as goal

-- a call that stopped made fewer gates than one more than it may
fewer : {a b : Circuit} {g i : ℕ} (k h : ℕ) (e : GateFault) → Grows a b g i → StopsWithin a b k e → g < h → StopsWithin a b h e
fewer k h (GateLimit limit) p s few = (s.0, s.1, omega (arith, (Grows-length p).1))
fewer k h Memory p s few = tt

pub returns-in_err-high-clause-stops : goal.returns-in_err-high-clause-stops
returns-in_err-high-clause-stops c =
    let p = err_from_is_err_and c.from_residual-in_err-high.result c.from_residual-in_err-high.ensures.1 in
    let long : length (take (length c.deref.result.now - 1) (drop 1 c.deref.result.now)) ≡ length c.args.rest.now =
    ap length (take_rest c.deref.result.now 1) ∙ omega (arith, length-drop 1 c.deref.result.now, ap length c.deref.ensures.value, c.in_ok-out.ensures.same, c.requires.shorter) in
    let k : ℕ = length (take (length c.deref.result.now - 1) (drop 1 c.deref.result.now)) in
    let stops = fewer (adder_size k k) (5 * length c.args.rest.now + 1) _ (c.in_err-high.ensures.ands refl) (c.in_err-high.ensures.stops k (within_power k)) (omega (arith, long)) in
    rw (p.1, p.2) (StopsWithin-after c.sum.new.net (5 * length c.args.rest.now + 1) (6 * length c.args.rest.now + 2) _ c.in_ok-out.ensures.grows stops (omega (arith, c.requires.shorter)))

pub returns-clause-stands : goal.returns-clause-stands
returns-clause-stands c =
    rw (c.in_ok-extend_from_slice.ensures.items, c.truncate.ensures.items, c.deref-2.ensures.value)
    (All-append (Stands c.sum.new.net) (take 1 c.in_ok-out.out.items) c.in_ok-high.high.items
    (All-take (Stands c.sum.new.net) 1 c.in_ok-out.out.items (AllStand-Grows (c.in_ok-high.ensures.ands refl) c.in_ok-out.out.items c.in_ok-out.ensures.stands))
    c.in_ok-high.ensures.stands)

-- the lowest literal of a row, and the sum of the others and the rest
twice : (m : Circuit) (bits : List Bool) (out high : List Lit) (vs : List Bool) (rest k : ℕ) → values m bits out ≡ vs → length out ≡ k + 1 → spelled m bits high ≡ word_add (2 ^ k) (number (drop 1 vs)) rest → spelled m bits (take 1 out ++ high) ≡ (number vs + 2 * rest) % 2 ^ (k + 1)
twice m bits out high vs rest k carried long sum =
    let low : values m bits (take 1 out) ≡ take 1 vs = sym (take-map (value m bits) 1 out) ∙ ap (take 1) carried in
    let one : length (values m bits (take 1 out)) ≡ 1 = length-map (take 1 out) (value m bits) ∙ length-take-le 1 out (omega arith) in
    let lowest : number (values m bits (take 1 out)) ≡ number vs % 2 = ap number low ∙ number-take 1 vs in
    let others : number (drop 1 vs) ≡ number vs / 2 = number-drop 1 vs in
    ap number (map-append (value m bits) (take 1 out) high)
    ∙ number-append (values m bits (take 1 out)) (values m bits high)
    ∙ ap (λ (j : ℕ). number (values m bits (take 1 out)) + 2 ^ j * number (values m bits high)) one
    ∙ ap (λ (u : ℕ). u + 2 * number (values m bits high)) lowest
    ∙ ap (λ (u : ℕ). number vs % 2 + 2 * u) (sum ∙ ap (λ (u : ℕ). (u + rest) % 2 ^ k) others)
    ∙ half-plus (number vs) rest k

pub returns-clause-value : goal.returns-clause-value
returns-clause-value c = λ bits.
    let n = c.args.net.now in
    let one = c.row.new.net in
    let out = c.in_ok-out.out.items in
    let vs : List Bool = values one bits out in
    let k : ℕ = length c.args.rest.now in
    let long : length out ≡ k + 1 = c.in_ok-out.ensures.same ∙ c.requires.shorter in
    let carried : values c.sum.new.net bits out ≡ vs = values-Grows (c.in_ok-high.ensures.ands refl) bits out c.in_ok-out.ensures.stands in
    let known = rw (c.deref.ensures.value, take_rest out 1) at (c.in_ok-high.ensures.value bits) in
    let few : length (drop 1 out) ≡ k = omega (arith, length-drop 1 out, long) in
    let moved : spelled one bits (drop 1 out) ≡ number (drop 1 vs) = ap number (sym (drop-map (value one bits) 1 out)) in
    let rest : spelled one bits c.args.rest.now ≡ spelled n bits c.args.rest.now = ap number (values-Grows c.in_ok-out.ensures.grows bits c.args.rest.now c.requires.rest) in
    let sum : spelled c.sum.new.net bits c.in_ok-high.high.items ≡ word_add (2 ^ k) (number (drop 1 vs)) (spelled n bits c.args.rest.now) =
    known ∙ ap (λ (j : ℕ). word_add (2 ^ j) (spelled one bits (drop 1 out)) (spelled one bits c.args.rest.now)) few
    ∙ ap (λ (u : ℕ). word_add (2 ^ k) u (spelled one bits c.args.rest.now)) moved
    ∙ ap (λ (u : ℕ). word_add (2 ^ k) (number (drop 1 vs)) u) rest in
    let row : number vs ≡ bit (value n bits c.args.digit) * spelled n bits c.args.word.now = ap number (c.in_ok-out.ensures.value bits) ∙ number-row (value n bits c.args.digit) (values n bits c.args.word.now) in
    rw (c.in_ok-extend_from_slice.ensures.items, c.truncate.ensures.items, c.deref-2.ensures.value)
    (twice c.sum.new.net bits out c.in_ok-high.high.items vs (spelled n bits c.args.rest.now) k carried long sum
    ∙ ap (λ (u : ℕ). (u + 2 * spelled n bits c.args.rest.now) % 2 ^ (k + 1)) row
    ∙ ap (λ (j : ℕ). (bit (value n bits c.args.digit) * spelled n bits c.args.word.now + 2 * spelled n bits c.args.rest.now) % 2 ^ j) (sym c.requires.shorter))

pub returns-in_err-out-clause-grows : goal.returns-in_err-out-clause-grows
returns-in_err-out-clause-grows c = Grows-weaken c.in_err-out.ensures.grows (omega (arith, c.requires.shorter, c.requires.some)) (omega (arith, c.requires.shorter, c.requires.some))

pub returns-in_err-out-clause-stops : goal.returns-in_err-out-clause-stops
returns-in_err-out-clause-stops c =
    let p = err_from_is_err_and c.from_residual.result c.from_residual.ensures.1 in
    rw (p.1, p.2) (StopsWithin-after c.row.new.net (length c.args.word.now) (6 * length c.args.rest.now + 2) _ (Grows-refl c.args.net.now) c.in_err-out.ensures.stops (omega (arith, c.requires.shorter)))

pub returns-in_err-high-clause-grows : goal.returns-in_err-high-clause-grows
returns-in_err-high-clause-grows c =
    let long : length (take (length c.deref.result.now - 1) (drop 1 c.deref.result.now)) ≡ length c.args.rest.now =
    ap length (take_rest c.deref.result.now 1) ∙ omega (arith, length-drop 1 c.deref.result.now, ap length c.deref.ensures.value, c.in_ok-out.ensures.same, c.requires.shorter) in
    Grows-then c.in_ok-out.ensures.grows (c.in_err-high.ensures.ands refl) (omega (arith, long, c.requires.shorter, c.requires.some)) (omega (arith, long, c.requires.shorter, c.requires.some))

pub returns-in_err-extend_from_slice-clause-grows : goal.returns-in_err-extend_from_slice-clause-grows
returns-in_err-extend_from_slice-clause-grows c =
    let long : length (take (length c.deref.result.now - 1) (drop 1 c.deref.result.now)) ≡ length c.args.rest.now =
    ap length (take_rest c.deref.result.now 1) ∙ omega (arith, length-drop 1 c.deref.result.now, ap length c.deref.ensures.value, c.in_ok-out.ensures.same, c.requires.shorter) in
    Grows-then c.in_ok-out.ensures.grows (c.in_ok-high.ensures.ands refl) (omega (arith, long, c.requires.shorter, c.requires.some)) (omega (arith, long, c.requires.shorter, c.requires.some))

pub returns-clause-grows : goal.returns-clause-grows
returns-clause-grows c =
    let long : length (take (length c.deref.result.now - 1) (drop 1 c.deref.result.now)) ≡ length c.args.rest.now =
    ap length (take_rest c.deref.result.now 1) ∙ omega (arith, length-drop 1 c.deref.result.now, ap length c.deref.ensures.value, c.in_ok-out.ensures.same, c.requires.shorter) in
    Grows-then c.in_ok-out.ensures.grows (c.in_ok-high.ensures.ands refl) (omega (arith, long, c.requires.shorter, c.requires.some)) (omega (arith, long, c.requires.shorter, c.requires.some))
