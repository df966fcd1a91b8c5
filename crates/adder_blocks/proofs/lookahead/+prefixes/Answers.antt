use Rattle.std.proofs.Common.{◌≡◌, ℕ, ◌+◌, ◌*◌, ◌-◌, ◌<◌, ◌≤◌, Bool, false, ◌^◌, map, suc, zero, subst, List, [], ◌++◌, length, get_or, sym, ap, ◌∙◌, arith, rules}
use Rattle.std.proofs.lemmas.Result.{err_from_is_err_and}
use Rattle.std.proofs.lemmas.List.{length-map}
use Rattle.gate_net.specs.Growth.{Grows}
use Rattle.gate_net.proofs.GrowthLaws.{Grows-trans, Grows-then, StopsWithin-after}
use Rattle.std.specs.List.{All}
use Rattle.std.proofs.lemmas.List.{map-append}
use Rattle.adder_blocks.specs.declared.lookahead.Cell.{Cell}
use Rattle.adder_blocks.specs.Cells.{CellStands, CellWithin, carried, carries, carry_after}
use Rattle.adder_blocks.proofs.CellLaws.{CellStands-Grows, carried-Grows, CellWithin-Grows, All-CellStands-Grows, All-CellWithin-Grows, map_carried-Grows, carries-Grows, last-carried, All-append, CellWithin-weaken, tree_gates, tree_ands, carries-short, carries-parts}
use Rattle.adder_blocks.proofs.TreeLaws.{halve, All-take, All-drop}
use Rattle.std.proofs.Math.Nat.{pow-suc}
use Rattle.std.proofs.Common.{length-append}
use Rattle.std.proofs.lemmas.Nat.{pow_pos}
use Rattle.adder_blocks.proofs.lookahead.+prefixes.Goals as goal

pub returns-then-cells-le1-clause-value : goal.returns-then-cells-le1-clause-value
returns-then-cells-le1-clause-value t c = λ bits s.
    let copied : c.in_ok-all.all.items ≡ c.args.cells.now = search rules in
    rw copied (carries-short c.args.net.now bits c.args.cells.now s c.if-cells-le1.true)

-- a length within its own power of two
within_power : (n : ℕ) → n ≤ 2 ^ n
within_power zero = omega arith
within_power (suc n) = omega (arith, within_power n, pow-suc 2 n, pow_pos n)

short : (cells part : List Cell) (m : ℕ) → length part + m ≡ length cells → length part ≤ 2 ^ length cells
short cells part m e = omega (arith, within_power (length cells))

pub prefixes-requires-2 : goal.prefixes-requires-2
prefixes-requires-2 t c =
    let shorter : length c.split_at.result.1.now < length c.args.cells.now = omega (arith, c.split_at.ensures.back_len, c.if-cells-le1.false) in
    let anywhere : Grows c.args.net.now c.prefixes.new.net _ _ = c.in_ok-done.ensures.grows (length c.args.cells.now) (short c.args.cells.now c.split_at.result.0.now (length c.split_at.result.1.now) (omega (arith, c.split_at.ensures.back_len, c.split_at.ensures.front_len))) in
    (search rules, All-CellStands-Grows anywhere c.split_at.result.1.now (rw c.split_at.ensures.back (All-drop (CellStands c.args.net.now) _ c.args.cells.now c.requires)))

pub returns-in_err-rest-clause-grows : goal.returns-in_err-rest-clause-grows
returns-in_err-rest-clause-grows t c = λ k small.
    let h = halve (length c.args.cells.now) k small (omega (arith, c.if-cells-le1.false)) in
    let parts : length c.split_at.result.0.now + length c.split_at.result.1.now ≡ length c.args.cells.now = omega (arith, c.split_at.ensures.front_len, c.split_at.ensures.back_len) in
    let gates = tree_gates (length c.split_at.result.0.now) (length c.split_at.result.1.now) (length c.args.cells.now) h.0 k parts h.1 in
    let ands = tree_ands (length c.split_at.result.0.now) (length c.split_at.result.1.now) (length c.args.cells.now) h.0 k parts h.1 in
    Grows-then (c.in_ok-done.ensures.grows h.0 (omega (arith, c.split_at.ensures.front_len, h.2))) (c.in_err-rest.ensures.grows h.0 (omega (arith, c.split_at.ensures.back_len, h.3))) (omega (arith, gates)) (omega (arith, ands))

pub returns-in_err-rest-clause-stops : goal.returns-in_err-rest-clause-stops
returns-in_err-rest-clause-stops t c =
    let p = err_from_is_err_and c.from_residual-in_err-rest.result c.from_residual-in_err-rest.ensures.1 in
    rw (p.1, p.2) (λ k small.
    let h = halve (length c.args.cells.now) k small (omega (arith, c.if-cells-le1.false)) in
    let parts : length c.split_at.result.0.now + length c.split_at.result.1.now ≡ length c.args.cells.now = omega (arith, c.split_at.ensures.front_len, c.split_at.ensures.back_len) in
    let gates = tree_gates (length c.split_at.result.0.now) (length c.split_at.result.1.now) (length c.args.cells.now) h.0 k parts h.1 in
    let ands = tree_ands (length c.split_at.result.0.now) (length c.split_at.result.1.now) (length c.args.cells.now) h.0 k parts h.1 in
    StopsWithin-after c.prefixes-2.new.net (3 * (length c.split_at.result.1.now * h.0)) (3 * (length c.args.cells.now * k)) _ (c.in_ok-done.ensures.grows h.0 (omega (arith, c.split_at.ensures.front_len, h.2))) (c.in_err-rest.ensures.stops h.0 (omega (arith, c.split_at.ensures.back_len, h.3))) (omega (arith, gates)))

pub after-requires-clause-second : goal.after-requires-clause-second
after-requires-clause-second t c =
    let last_at : c.index-last.result.now ≡ get_or c.in_ok-done.done.items (length c.in_ok-done.done.items - 1) c.index-last.result.now = search rules in
    let some : 0 < length c.in_ok-done.done.items = omega (arith, c.in_ok-done.ensures.same, c.split_at.ensures.front_len, c.if-cells-le1.false) in
    let stands = subst (CellStands c.prefixes.new.net) (sym last_at) (c.in_ok-done.ensures.stands (length c.in_ok-done.done.items - 1) c.index-last.result.now (omega arith)) in
    CellStands-Grows (c.in_ok-rest.ensures.grows (length c.args.cells.now) (short c.args.cells.now c.split_at.result.1.now _ c.split_at.ensures.back_len)) c.index-last.result.now stands

pub returns-in_err-more-clause-grows : goal.returns-in_err-more-clause-grows
returns-in_err-more-clause-grows t c = λ k small.
    let h = halve (length c.args.cells.now) k small (omega (arith, c.if-cells-le1.false)) in
    let parts : length c.split_at.result.0.now + length c.split_at.result.1.now ≡ length c.args.cells.now = omega (arith, c.split_at.ensures.front_len, c.split_at.ensures.back_len) in
    let gates = tree_gates (length c.split_at.result.0.now) (length c.split_at.result.1.now) (length c.args.cells.now) h.0 k parts h.1 in
    let ands = tree_ands (length c.split_at.result.0.now) (length c.split_at.result.1.now) (length c.args.cells.now) h.0 k parts h.1 in
    let same : length c.deref.result.now ≡ length c.split_at.result.1.now = ap length c.deref.ensures.value ∙ c.in_ok-rest.ensures.same in
    Grows-then (Grows-trans (c.in_ok-done.ensures.grows h.0 (omega (arith, c.split_at.ensures.front_len, h.2))) (c.in_ok-rest.ensures.grows h.0 (omega (arith, c.split_at.ensures.back_len, h.3)))) c.in_err-more.ensures.grows
    (omega (arith, same, gates)) (omega (arith, same, ands))

pub returns-in_err-more-clause-stops : goal.returns-in_err-more-clause-stops
returns-in_err-more-clause-stops t c =
    let p = err_from_is_err_and c.from_residual-in_err-more.result c.from_residual-in_err-more.ensures.1 in
    rw (p.1, p.2) (λ k small.
    let h = halve (length c.args.cells.now) k small (omega (arith, c.if-cells-le1.false)) in
    let parts : length c.split_at.result.0.now + length c.split_at.result.1.now ≡ length c.args.cells.now = omega (arith, c.split_at.ensures.front_len, c.split_at.ensures.back_len) in
    let gates = tree_gates (length c.split_at.result.0.now) (length c.split_at.result.1.now) (length c.args.cells.now) h.0 k parts h.1 in
    let ands = tree_ands (length c.split_at.result.0.now) (length c.split_at.result.1.now) (length c.args.cells.now) h.0 k parts h.1 in
    let same : length c.deref.result.now ≡ length c.split_at.result.1.now = ap length c.deref.ensures.value ∙ c.in_ok-rest.ensures.same in
    StopsWithin-after c.after.new.net (3 * length c.deref.result.now) (3 * (length c.args.cells.now * k)) _ (Grows-trans (c.in_ok-done.ensures.grows h.0 (omega (arith, c.split_at.ensures.front_len, h.2))) (c.in_ok-rest.ensures.grows h.0 (omega (arith, c.split_at.ensures.back_len, h.3)))) c.in_err-more.ensures.stops (omega (arith, same, gates)))

pub returns-in_err-extend_from_slice-clause-grows : goal.returns-in_err-extend_from_slice-clause-grows
returns-in_err-extend_from_slice-clause-grows t c = λ k small.
    let h = halve (length c.args.cells.now) k small (omega (arith, c.if-cells-le1.false)) in
    let parts : length c.split_at.result.0.now + length c.split_at.result.1.now ≡ length c.args.cells.now = omega (arith, c.split_at.ensures.front_len, c.split_at.ensures.back_len) in
    let gates = tree_gates (length c.split_at.result.0.now) (length c.split_at.result.1.now) (length c.args.cells.now) h.0 k parts h.1 in
    let ands = tree_ands (length c.split_at.result.0.now) (length c.split_at.result.1.now) (length c.args.cells.now) h.0 k parts h.1 in
    let same : length c.deref.result.now ≡ length c.split_at.result.1.now = ap length c.deref.ensures.value ∙ c.in_ok-rest.ensures.same in
    Grows-then (Grows-trans (c.in_ok-done.ensures.grows h.0 (omega (arith, c.split_at.ensures.front_len, h.2))) (c.in_ok-rest.ensures.grows h.0 (omega (arith, c.split_at.ensures.back_len, h.3)))) c.in_ok-more.ensures.grows
    (omega (arith, same, gates)) (omega (arith, same, ands))

pub returns-clause-grows : goal.returns-clause-grows
returns-clause-grows t c = λ k small.
    let h = halve (length c.args.cells.now) k small (omega (arith, c.if-cells-le1.false)) in
    let parts : length c.split_at.result.0.now + length c.split_at.result.1.now ≡ length c.args.cells.now = omega (arith, c.split_at.ensures.front_len, c.split_at.ensures.back_len) in
    let gates = tree_gates (length c.split_at.result.0.now) (length c.split_at.result.1.now) (length c.args.cells.now) h.0 k parts h.1 in
    let ands = tree_ands (length c.split_at.result.0.now) (length c.split_at.result.1.now) (length c.args.cells.now) h.0 k parts h.1 in
    let same : length c.deref.result.now ≡ length c.split_at.result.1.now = ap length c.deref.ensures.value ∙ c.in_ok-rest.ensures.same in
    Grows-then (Grows-trans (c.in_ok-done.ensures.grows h.0 (omega (arith, c.split_at.ensures.front_len, h.2))) (c.in_ok-rest.ensures.grows h.0 (omega (arith, c.split_at.ensures.back_len, h.3)))) c.in_ok-more.ensures.grows
    (omega (arith, same, gates)) (omega (arith, same, ands))

pub returns-clause-same : goal.returns-clause-same
returns-clause-same t c =
    let more : length c.in_ok-more.more.items ≡ length c.deref.result.now =
    sym (length-map c.in_ok-more.more.items (carried c.after.new.net [] false))
    ∙ ap length (c.in_ok-more.ensures.value [] false)
    ∙ length-map c.deref.result.now (carried c.prefixes-2.new.net [] (carried c.prefixes-2.new.net [] false c.index-last.result.now)) in
    rw (c.in_ok-extend_from_slice.ensures.items, c.deref-2.ensures.value)
    (omega (arith, length-append c.in_ok-done.done.items c.in_ok-more.more.items, more, ap length c.deref.ensures.value, c.in_ok-rest.ensures.same, c.in_ok-done.ensures.same, c.split_at.ensures.front_len, c.split_at.ensures.back_len))

pub returns-clause-stands : goal.returns-clause-stands
returns-clause-stands t c =
    let rest = c.in_ok-rest.ensures.grows (length c.args.cells.now) (short c.args.cells.now c.split_at.result.1.now _ c.split_at.ensures.back_len) in
    let more : c.deref-2.result.now ≡ c.in_ok-more.more.items = c.deref-2.ensures.value in
    rw (c.in_ok-extend_from_slice.ensures.items, c.deref-2.ensures.value)
    (All-append (CellStands c.after.new.net) c.in_ok-done.done.items c.in_ok-more.more.items
    (All-CellStands-Grows (Grows-trans rest c.in_ok-more.ensures.grows) c.in_ok-done.done.items c.in_ok-done.ensures.stands)
    c.in_ok-more.ensures.stands)

pub returns-clause-value : goal.returns-clause-value
returns-clause-value t c = λ bits s.
    let n = c.args.net.now in
    let first = c.in_ok-done.ensures.grows (length c.args.cells.now) (short c.args.cells.now c.split_at.result.0.now (length c.split_at.result.1.now) (omega (arith, c.split_at.ensures.back_len, c.split_at.ensures.front_len))) in
    let rest = c.in_ok-rest.ensures.grows (length c.args.cells.now) (short c.args.cells.now c.split_at.result.1.now _ c.split_at.ensures.back_len) in
    let last_at : c.index-last.result.now ≡ get_or c.in_ok-done.done.items (length c.in_ok-done.done.items - 1) c.index-last.result.now = search rules in
    let some : 0 < length c.in_ok-done.done.items = omega (arith, c.in_ok-done.ensures.same, c.split_at.ensures.front_len, c.if-cells-le1.false) in
    let last_stands = subst (CellStands c.prefixes.new.net) (sym last_at) (c.in_ok-done.ensures.stands (length c.in_ok-done.done.items - 1) c.index-last.result.now (omega arith)) in
    let carry : carried c.prefixes-2.new.net bits s c.index-last.result.now ≡ carry_after n bits c.split_at.result.0.now s =
    carried-Grows rest bits s c.index-last.result.now last_stands
    ∙ ap (carried c.prefixes.new.net bits s) last_at
    ∙ last-carried c.prefixes.new.net n bits c.in_ok-done.done.items c.split_at.result.0.now s c.index-last.result.now (c.in_ok-done.ensures.value bits s) c.in_ok-done.ensures.same (omega (arith, c.in_ok-done.ensures.same)) in
    let high : map (carried c.after.new.net bits s) c.in_ok-more.more.items ≡ carries n bits c.split_at.result.1.now (carry_after n bits c.split_at.result.0.now s) =
    c.in_ok-more.ensures.value bits s
    ∙ ap (map (carried c.prefixes-2.new.net bits (carried c.prefixes-2.new.net bits s c.index-last.result.now))) c.deref.ensures.value
    ∙ c.in_ok-rest.ensures.value bits (carried c.prefixes-2.new.net bits s c.index-last.result.now)
    ∙ carries-Grows first bits (carried c.prefixes-2.new.net bits s c.index-last.result.now) c.split_at.result.1.now (rw c.split_at.ensures.back (All-drop (CellStands c.args.net.now) _ c.args.cells.now c.requires))
    ∙ ap (carries n bits c.split_at.result.1.now) carry in
    let low : map (carried c.after.new.net bits s) c.in_ok-done.done.items ≡ carries n bits c.split_at.result.0.now s =
    map_carried-Grows (Grows-trans rest c.in_ok-more.ensures.grows) bits s c.in_ok-done.done.items c.in_ok-done.ensures.stands
    ∙ c.in_ok-done.ensures.value bits s in
    rw (c.in_ok-extend_from_slice.ensures.items, c.deref-2.ensures.value)
    (map-append (carried c.after.new.net bits s) c.in_ok-done.done.items c.in_ok-more.more.items
    ∙ ap (λ (xs : List Bool). xs ++ map (carried c.after.new.net bits s) c.in_ok-more.more.items) low
    ∙ ap (λ (ys : List Bool). carries n bits c.split_at.result.0.now s ++ ys) high
    ∙ carries-parts n bits c.args.cells.now c.split_at.result.0.now c.split_at.result.1.now _ s c.split_at.ensures.front c.split_at.ensures.back)

pub returns-clause-level : goal.returns-clause-level
returns-clause-level t c = λ p k small all.
    let h = halve (length c.args.cells.now) k small (omega (arith, c.if-cells-le1.false)) in
    let first = c.in_ok-done.ensures.grows (length c.args.cells.now) (short c.args.cells.now c.split_at.result.0.now (length c.split_at.result.1.now) (omega (arith, c.split_at.ensures.back_len, c.split_at.ensures.front_len))) in
    let rest = c.in_ok-rest.ensures.grows (length c.args.cells.now) (short c.args.cells.now c.split_at.result.1.now _ c.split_at.ensures.back_len) in
    let last_at : c.index-last.result.now ≡ get_or c.in_ok-done.done.items (length c.in_ok-done.done.items - 1) c.index-last.result.now = search rules in
    let some : 0 < length c.in_ok-done.done.items = omega (arith, c.in_ok-done.ensures.same, c.split_at.ensures.front_len, c.if-cells-le1.false) in
    let low = c.in_ok-done.ensures.level p h.0 (omega (arith, c.split_at.ensures.front_len, h.2)) (rw c.split_at.ensures.front (All-take (CellWithin c.args.net.now p) _ c.args.cells.now all)) in
    let high = c.in_ok-rest.ensures.level p h.0 (omega (arith, c.split_at.ensures.back_len, h.3)) (All-CellWithin-Grows first p c.split_at.result.1.now (rw c.split_at.ensures.back (All-drop (CellStands c.args.net.now) _ c.args.cells.now c.requires)) (rw c.split_at.ensures.back (All-drop (CellWithin c.args.net.now p) _ c.args.cells.now all))) in
    let last_stands = subst (CellStands c.prefixes.new.net) (sym last_at) (c.in_ok-done.ensures.stands (length c.in_ok-done.done.items - 1) c.index-last.result.now (omega arith)) in
    let last_within = CellWithin-Grows rest (p + h.0) c.index-last.result.now last_stands (subst (CellWithin c.prefixes.new.net (p + h.0)) (sym last_at) (low (length c.in_ok-done.done.items - 1) c.index-last.result.now (omega arith))) in
    let deeper : p + h.0 + 1 ≡ p + k = omega (arith, h.1) in
    let more = subst (λ (q : ℕ). All (CellWithin c.after.new.net q) c.in_ok-more.more.items) deeper (c.in_ok-more.ensures.level (p + h.0) (rw c.deref.ensures.value high) last_within) in
    rw (c.in_ok-extend_from_slice.ensures.items, c.deref-2.ensures.value)
    (All-append (CellWithin c.after.new.net (p + k)) c.in_ok-done.done.items c.in_ok-more.more.items
    (CellWithin-weaken c.after.new.net (p + h.0) (p + k) c.in_ok-done.done.items (omega (arith, h.1)) (All-CellWithin-Grows (Grows-trans rest c.in_ok-more.ensures.grows) (p + h.0) c.in_ok-done.done.items c.in_ok-done.ensures.stands low))
    more)
