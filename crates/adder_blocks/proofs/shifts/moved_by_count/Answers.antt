use Rattle.std.proofs.Common.{◌≡◌, ℕ, ◌+◌, ◌*◌, ◌^◌, ◌<◌, ◌≤◌, Bool, false, if◌then◌else◌, List, [], length, take, get_or, sym, ap, ◌∙◌, arith, rules}
use Rattle.std.proofs.Math.Nat.{mul-le-mul_left}
use Rattle.std.proofs.lemmas.List.{take_more, length-take, length-map}
use Rattle.std.proofs.lemmas.Result.{err_from_is_err_and}
use Rattle.hy_bits.specs.Bits.{bit, number}
use Rattle.hy_bits.proofs.BitLaws.{number-push_of}
use Rattle.gate_net.specs.declared.literal.Lit.{Lit}
use Rattle.gate_net.specs.Circuit.{Circuit, Stands}
use Rattle.gate_net.specs.Meaning.{value}
use Rattle.gate_net.proofs.GrowthLaws.{Grows-value, Grows-stands, Grows-then, StopsWithin-after}
use Rattle.gate_net.specs.Spelled.{values}
use Rattle.adder_blocks.specs.Shifts.{moved_by}
use Rattle.gate_net.proofs.ListLaws.{get_or-values, length-from_values}
use Rattle.adder_blocks.proofs.TreeLaws.{below_power}
use Rattle.adder_blocks.proofs.ShiftLaws.{moved_by-length, moved_by-map, moved_by-selected, All-moved_by}
use Rattle.adder_blocks.proofs.shifts.moved_by_count.Goals as goal

number-next : (cs : List Bool) (place : ℕ) → place < length cs → number (take (place + 1) cs) ≡ number (take place cs) + 2 ^ place * bit (get_or cs place false)
number-next cs place h = ap number (take_more cs place false h) ∙ number-push_of place (take place cs) (get_or cs place false) (omega (arith, length-take place cs))

-- one selection more
step : (n m k : Circuit) (bits : List Bool) (up : Bool) (place : ℕ) (a count out far next : List Lit) (fill c : Lit)
    → far ≡ moved_by up fill (2 ^ place) out → place < length count
    → value m bits fill ≡ value n bits fill → value m bits c ≡ get_or (values n bits count) place false
    → values m bits out ≡ moved_by up (value n bits fill) (number (take place (values n bits count))) (values n bits a)
    → values k bits next ≡ (if value m bits c then values m bits far else values m bits out)
    → values k bits next ≡ moved_by up (value n bits fill) (number (take (place + 1) (values n bits count))) (values n bits a)
step n m k bits up place a count out far next fill c moved at same_fill same_bit before chosen =
    let cs : List Bool = values n bits count in
    let f : Bool = value n bits fill in
    let i : ℕ = number (take place cs) in
    let xs : List Bool = values n bits a in
    let further : values m bits far ≡ moved_by up f (2 ^ place) (moved_by up f i xs) =
    ap (values m bits) moved ∙ moved_by-map (value m bits) up fill (2 ^ place) out
    ∙ ap (λ (g : Bool). moved_by up g (2 ^ place) (values m bits out)) same_fill
    ∙ ap (moved_by up f (2 ^ place)) before in
    chosen
    ∙ equal_if same_bit further before
    ∙ moved_by-selected up (get_or cs place false) f i (2 ^ place) xs
    ∙ ap (λ (j : ℕ). moved_by up f j xs) (sym (number-next cs place (omega (arith, length-map count (value n bits)))))
  where
    equal_if : {b d : Bool} {ws ys us vs : List Bool} → b ≡ d → ws ≡ us → ys ≡ vs → (if b then ws else ys) ≡ (if d then us else vs)
    equal_if {d = d} {ws = ws} {ys = ys} {us = us} p q r = ap (λ (e : Bool). if e then ws else ys) p ∙ ap (λ (zs : List Bool). if d then zs else ys) q ∙ ap (λ (zs : List Bool). if d then us else zs) r

-- the gates of one selection more are within those of all
within : (l place count : ℕ) → place < count → (3 * l * place + 3 * l ≤ 3 * l * count) × (l * place + l ≤ l * count)
within l place count h = (omega (arith, mul-le-mul_left {m = place + 1} {n = count} (3 * l) (omega arith)), omega (arith, mul-le-mul_left {m = place + 1} {n = count} l (omega arith)))

pub overflow_shl-place : goal.overflow_shl-place
overflow_shl-place c = omega (arith, c.requires.short c.loop-place.place c.loop-place-test.true, c.requires.width, below_power c.loop-place.place)

pub choose-requires-clause-first : goal.choose-requires-clause-first
choose-requires-clause-first c = rw (c.deref-in-loop-place.ensures.value, c.in_ok-far.ensures, c.deref.ensures.value) (All-moved_by (Stands c.loop-place.net) c.args.up c.args.fill _ c.loop-place.out.items (Grows-stands c.loop-place.invariant.0 c.args.fill c.requires.fill) c.loop-place.invariant.1)

pub returns-in_err-out-2-clause-grows : goal.returns-in_err-out-2-clause-grows
returns-in_err-out-2-clause-grows c =
    let long : length c.deref-in-loop-place.result.now ≡ length c.args.a.now = rw (c.deref-in-loop-place.ensures.value, c.in_ok-far.ensures, c.deref.ensures.value) (moved_by-length c.args.up c.args.fill _ c.loop-place.out.items ∙ c.loop-place.invariant.2) in
    let room = within (length c.args.a.now) c.loop-place.place (length c.args.count.now) c.loop-place-test.true in
    Grows-then c.loop-place.invariant.0 c.in_err-out-2.ensures.grows (omega (arith, long, room.0)) (omega (arith, long, room.1))

pub returns-in_err-out-2-clause-stops : goal.returns-in_err-out-2-clause-stops
returns-in_err-out-2-clause-stops c =
    let long : length c.deref-in-loop-place.result.now ≡ length c.args.a.now = rw (c.deref-in-loop-place.ensures.value, c.in_ok-far.ensures, c.deref.ensures.value) (moved_by-length c.args.up c.args.fill _ c.loop-place.out.items ∙ c.loop-place.invariant.2) in
    let room = within (length c.args.a.now) c.loop-place.place (length c.args.count.now) c.loop-place-test.true in
    let p = err_from_is_err_and c.from_residual-in_err-out-2.result c.from_residual-in_err-out-2.ensures.1 in
    rw (p.1, p.2) (StopsWithin-after c.choose.new.net (3 * length c.deref-in-loop-place.result.now) (3 * length c.args.a.now * length c.args.count.now) _ c.loop-place.invariant.0 c.in_err-out-2.ensures.stops (omega (arith, long, room.0)))

pub loop-place-preserved : goal.loop-place-preserved
loop-place-preserved c =
    let n = c.args.net.now in
    let m = c.loop-place.net in
    let at = c.loop-place-test.true in
    let bit_at = get_or c.args.count.now c.loop-place.place (record { code = 0 }) in
    let long : length c.deref-in-loop-place.result.now ≡ length c.args.a.now = rw (c.deref-in-loop-place.ensures.value, c.in_ok-far.ensures, c.deref.ensures.value) (moved_by-length c.args.up c.args.fill _ c.loop-place.out.items ∙ c.loop-place.invariant.2) in
    let moved : c.in_ok-far.far.items ≡ moved_by c.args.up c.args.fill (2 ^ c.loop-place.place) c.loop-place.out.items = search rules in
    let carried : (bits : List Bool) → values c.choose.new.net bits c.in_ok-out-2.out.items ≡ moved_by c.args.up (value n bits c.args.fill) (number (take (c.loop-place.place + 1) (values n bits c.args.count.now))) (values n bits c.args.a.now) = λ bits.
    let chosen = rw (c.deref-in-loop-place.ensures.value, c.deref-in-loop-place-2.ensures.value) at (c.in_ok-out-2.ensures.value bits) in
    step n m c.choose.new.net bits c.args.up c.loop-place.place c.args.a.now c.args.count.now c.loop-place.out.items c.in_ok-far.far.items c.in_ok-out-2.out.items c.args.fill bit_at
    moved at
    (Grows-value c.loop-place.invariant.0 bits c.args.fill c.requires.fill)
    (Grows-value c.loop-place.invariant.0 bits bit_at (c.requires.second c.loop-place.place (record { code = 0 }) at) ∙ sym (get_or-values n bits c.args.count.now c.loop-place.place (record { code = 0 }) false at))
    (c.loop-place.invariant.3 bits)
    chosen in (
      Grows-then c.loop-place.invariant.0 c.in_ok-out-2.ensures.grows (omega (arith, long)) (omega (arith, long)),
      c.in_ok-out-2.ensures.stands,
      length-from_values c.choose.new.net c.in_ok-out-2.out.items _ (carried []) ∙ moved_by-length c.args.up _ _ (values n [] c.args.a.now) ∙ length-map c.args.a.now (value n []),
      carried,
    )
