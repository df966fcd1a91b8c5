use Rattle.hy_bits.specs.Sizes.{adder_size}
use Rattle.std.proofs.Common.{◌≡◌, ℕ, zero, suc, ◌+◌, ◌*◌, ◌^◌, ◌<◌, ◌≤◌, Bool, true, nat_lt, if◌then◌else◌, List, [], length, take, drop, replicate, sym, ap, ◌∙◌, inl, inr, arith, rules}
use Rattle.std.proofs.Math.Nat.{mul-le-mul_left}
use Rattle.std.proofs.lemmas.List.{length-map}
use Rattle.std.proofs.lemmas.Bool.{cases_lt}
use Rattle.std.proofs.lemmas.Bool.Decides.{nat_tests}
use Rattle.std.proofs.lemmas.Result.{err_from_is_err_and}
use Rattle.hy_bits.specs.Bits.{number}
use Rattle.gate_net.specs.Circuit.{Stands}
use Rattle.gate_net.specs.Meaning.{value}
use Rattle.gate_net.proofs.GrowthLaws.{Grows-value, Grows-trans, Grows-then, StopsWithin-after, Grows-refl, Grows-weaken}
use Rattle.gate_net.specs.Spelled.{values, spelled, AllStand}
use Rattle.adder_blocks.specs.Shifts.{moved_by}
use Rattle.gate_net.proofs.ListLaws.{values-Grows, length-from_values}
use Rattle.adder_blocks.proofs.TreeLaws.{All-drop, spelled-parts}
use Rattle.adder_blocks.proofs.ShiftLaws.{map-replicate, moved_by-length, moved_by-full}
use Rattle.adder_blocks.proofs.shifts.shifted.Goals as goal

-- no more stages than the logarithm of the width
few : (width stages k : ℕ) → ((place : ℕ) → place < stages → 2 ^ place < width) → width ≤ 2 ^ k → stages ≤ k
few width stages k short small = elim (cases_lt k stages) [
  | inl past ↦ absurd (omega (arith, short k past))
  | inr within ↦ within
]

-- the selections, the test of further bits and the last selection are within the bound
room : (n stages k high count : ℕ) → stages ≤ k → stages + high ≡ count → (3 * n * stages + high + 3 * n ≤ 8 * (n * (1 + k)) + 4 * count) × (n * stages + high + n ≤ 8 * (n * (1 + k)) + 4 * count)
room n stages k high count h whole = let product = mul-le-mul_left {m = stages} {n = k} n h in (omega (arith, product), omega (arith, product))

-- the last selection: everything is pushed out where a further bit is 1
selected : (up f : Bool) (low high stages count : ℕ) (xs ys near : List Bool) → ys ≡ replicate (length xs) f → near ≡ moved_by up f low xs → count ≡ low + 2 ^ stages * high → length xs ≤ 2 ^ stages →
    (if nat_lt 0 high then ys else near) ≡ moved_by up f count xs
selected up f low zero stages count xs ys near full moved whole short =
    moved ∙ ap (λ (k : ℕ). moved_by up f k xs) (omega arith)
selected up f low (suc high) stages count xs ys near full moved whole short =
    let test : nat_lt 0 (suc high) ≡ true = grind (arith, nat_tests) in
    let more : 2 ^ stages ≤ 2 ^ stages * suc high = omega arith in
    rw test (full ∙ sym (moved_by-full up f count xs (omega (arith, more))))

pub returns-in_err-any-clause-gates : goal.returns-in_err-any-clause-gates
returns-in_err-any-clause-gates c = λ k small.
    let low : length c.split_at.result.0.now ≡ c.stages.result = search rules in
    let high : length c.split_at.result.0.now + length c.split_at.result.1.now ≡ length c.args.count.now = search rules in
    let within : length c.split_at.result.0.now ≤ k = omega (arith, low, few (length c.args.a.now) c.stages.result k c.stages.ensures.short small) in
    let fits = room (length c.args.a.now) (length c.split_at.result.0.now) k (length c.split_at.result.1.now) (length c.args.count.now) within high in
    Grows-then c.in_ok-near.ensures.grows c.in_err-any.ensures.grows (omega (arith, fits.0)) (omega (arith, fits.1))

pub returns-in_err-any-clause-stops : goal.returns-in_err-any-clause-stops
returns-in_err-any-clause-stops c =
    let p = err_from_is_err_and c.from_residual-in_err-any.result c.from_residual-in_err-any.ensures.1 in
    rw (p.1, p.2) (λ k small.
    let low : length c.split_at.result.0.now ≡ c.stages.result = search rules in
    let high : length c.split_at.result.0.now + length c.split_at.result.1.now ≡ length c.args.count.now = search rules in
    let within : length c.split_at.result.0.now ≤ k = omega (arith, low, few (length c.args.a.now) c.stages.result k c.stages.ensures.short small) in
    let fits = room (length c.args.a.now) (length c.split_at.result.0.now) k (length c.split_at.result.1.now) (length c.args.count.now) within high in
    StopsWithin-after c.any_of.new.net (length c.split_at.result.1.now) (adder_size (length c.args.a.now) k + 4 * length c.args.count.now) _ c.in_ok-near.ensures.grows c.in_err-any.ensures.stops (omega (arith, fits.0)))

pub returns-in_err-far-clause-gates : goal.returns-in_err-far-clause-gates
returns-in_err-far-clause-gates c = λ k small.
    let low : length c.split_at.result.0.now ≡ c.stages.result = search rules in
    let high : length c.split_at.result.0.now + length c.split_at.result.1.now ≡ length c.args.count.now = search rules in
    let within : length c.split_at.result.0.now ≤ k = omega (arith, low, few (length c.args.a.now) c.stages.result k c.stages.ensures.short small) in
    let fits = room (length c.args.a.now) (length c.split_at.result.0.now) k (length c.split_at.result.1.now) (length c.args.count.now) within high in
    Grows-then c.in_ok-near.ensures.grows c.in_ok-any.ensures.grows (omega (arith, fits.0)) (omega (arith, fits.1))

pub choose-requires-clause-same_length : goal.choose-requires-clause-same_length
choose-requires-clause-same_length c =
    let n = c.args.net.now in
    let first : length c.deref.result.now ≡ length c.args.a.now = search rules in
    let second : length c.in_ok-near.near.items ≡ length c.args.a.now =
    length-from_values c.moved_by_count.new.net c.in_ok-near.near.items _ (c.in_ok-near.ensures.value []) ∙ moved_by-length c.args.up _ _ (values n [] c.args.a.now) ∙ length-map c.args.a.now (value n []) in
    rw c.deref-2.ensures.value (first ∙ sym second)

pub returns-in_err-out-clause-gates : goal.returns-in_err-out-clause-gates
returns-in_err-out-clause-gates c = λ k small.
    let low : length c.split_at.result.0.now ≡ c.stages.result = search rules in
    let high : length c.split_at.result.0.now + length c.split_at.result.1.now ≡ length c.args.count.now = search rules in
    let within : length c.split_at.result.0.now ≤ k = omega (arith, low, few (length c.args.a.now) c.stages.result k c.stages.ensures.short small) in
    let fits = room (length c.args.a.now) (length c.split_at.result.0.now) k (length c.split_at.result.1.now) (length c.args.count.now) within high in
    let same : length c.deref.result.now ≡ length c.args.a.now = search rules in
    Grows-then (Grows-trans c.in_ok-near.ensures.grows c.in_ok-any.ensures.grows) c.in_err-out.ensures.grows (omega (arith, fits.0, same)) (omega (arith, fits.1, same))

pub returns-in_err-out-clause-stops : goal.returns-in_err-out-clause-stops
returns-in_err-out-clause-stops c =
    let p = err_from_is_err_and c.from_residual-in_err-out.result c.from_residual-in_err-out.ensures.1 in
    let same : length c.deref.result.now ≡ length c.args.a.now = search rules in
    rw (p.1, p.2) (λ k small.
    let low : length c.split_at.result.0.now ≡ c.stages.result = search rules in
    let high : length c.split_at.result.0.now + length c.split_at.result.1.now ≡ length c.args.count.now = search rules in
    let within : length c.split_at.result.0.now ≤ k = omega (arith, low, few (length c.args.a.now) c.stages.result k c.stages.ensures.short small) in
    let fits = room (length c.args.a.now) (length c.split_at.result.0.now) k (length c.split_at.result.1.now) (length c.args.count.now) within high in
    StopsWithin-after c.choose.new.net (3 * length c.deref.result.now) (adder_size (length c.args.a.now) k + 4 * length c.args.count.now) _ (Grows-trans c.in_ok-near.ensures.grows c.in_ok-any.ensures.grows) c.in_err-out.ensures.stops (omega (arith, fits.0, same)))

pub returns-clause-gates : goal.returns-clause-gates
returns-clause-gates c = λ k small.
    let low : length c.split_at.result.0.now ≡ c.stages.result = search rules in
    let high : length c.split_at.result.0.now + length c.split_at.result.1.now ≡ length c.args.count.now = search rules in
    let within : length c.split_at.result.0.now ≤ k = omega (arith, low, few (length c.args.a.now) c.stages.result k c.stages.ensures.short small) in
    let fits = room (length c.args.a.now) (length c.split_at.result.0.now) k (length c.split_at.result.1.now) (length c.args.count.now) within high in
    let same : length c.deref.result.now ≡ length c.args.a.now = search rules in
    Grows-then (Grows-trans c.in_ok-near.ensures.grows c.in_ok-any.ensures.grows) c.in_ok-out.ensures.grows (omega (arith, fits.0, same)) (omega (arith, fits.1, same))

pub returns-clause-value : goal.returns-clause-value
returns-clause-value c = λ bits.
    let n = c.args.net.now in
    let near = c.in_ok-near.ensures.grows in
    let both = Grows-trans near c.in_ok-any.ensures.grows in
    let known = rw c.deref-2.ensures.value at (c.in_ok-out.ensures.value bits) in
    let filled : c.deref.result.now ≡ replicate (length c.args.a.now) c.args.fill = search rules in
    let low : length c.split_at.result.0.now ≡ c.stages.result = search rules in
    let front : c.split_at.result.0.now ≡ take c.stages.result c.args.count.now = search rules in
    let back : c.split_at.result.1.now ≡ drop c.stages.result c.args.count.now = search rules in
    let high_stands : AllStand n c.split_at.result.1.now = rw back (All-drop (Stands n) c.stages.result c.args.count.now c.requires.second) in
    let high : spelled c.moved_by_count.new.net bits c.split_at.result.1.now ≡ spelled n bits c.split_at.result.1.now = ap number (values-Grows near bits c.split_at.result.1.now high_stands) in
    let test : value c.any_of.new.net bits c.in_ok-any.any ≡ nat_lt 0 (spelled n bits c.split_at.result.1.now) = c.in_ok-any.ensures.value bits ∙ ap (nat_lt 0) high in
    let far : values c.any_of.new.net bits c.deref.result.now ≡ replicate (length (values n bits c.args.a.now)) (value n bits c.args.fill) =
    ap (values c.any_of.new.net bits) filled
    ∙ map-replicate (value c.any_of.new.net bits) (length c.args.a.now) c.args.fill
    ∙ ap (replicate (length c.args.a.now)) (Grows-value both bits c.args.fill c.requires.fill)
    ∙ ap (λ (k : ℕ). replicate k (value n bits c.args.fill)) (sym (length-map c.args.a.now (value n bits))) in
    let stayed : values c.any_of.new.net bits c.in_ok-near.near.items ≡ moved_by c.args.up (value n bits c.args.fill) (spelled n bits c.split_at.result.0.now) (values n bits c.args.a.now) =
    values-Grows c.in_ok-any.ensures.grows bits c.in_ok-near.near.items c.in_ok-near.ensures.stands ∙ c.in_ok-near.ensures.value bits in
    let some : 0 < length c.split_at.result.1.now = search rules in
    let counted : length c.split_at.result.0.now + length c.split_at.result.1.now ≡ length c.args.count.now = search rules in
    let wide : length (values n bits c.args.a.now) ≤ 2 ^ c.stages.result = omega (arith, length-map c.args.a.now (value n bits), c.stages.ensures.whole (omega (arith, low, some, counted))) in
    known
    ∙ ap (λ (b : Bool). if b then values c.any_of.new.net bits c.deref.result.now else values c.any_of.new.net bits c.in_ok-near.near.items) test
    ∙ selected c.args.up (value n bits c.args.fill) (spelled n bits c.split_at.result.0.now) (spelled n bits c.split_at.result.1.now) c.stages.result (spelled n bits c.args.count.now) (values n bits c.args.a.now) _ _ far stayed
    (spelled-parts n bits c.args.count.now c.split_at.result.0.now c.split_at.result.1.now c.stages.result front back low) wide

pub returns-in_err-near-clause-gates : goal.returns-in_err-near-clause-gates
returns-in_err-near-clause-gates c = λ k small.
    let low : length c.split_at.result.0.now ≡ c.stages.result = search rules in
    let high : length c.split_at.result.0.now + length c.split_at.result.1.now ≡ length c.args.count.now = search rules in
    let within : length c.split_at.result.0.now ≤ k = omega (arith, low, few (length c.args.a.now) c.stages.result k c.stages.ensures.short small) in
    let fits = room (length c.args.a.now) (length c.split_at.result.0.now) k (length c.split_at.result.1.now) (length c.args.count.now) within high in
    Grows-weaken c.in_err-near.ensures.grows (omega (arith, fits.0)) (omega (arith, fits.1))

pub returns-in_err-near-clause-stops : goal.returns-in_err-near-clause-stops
returns-in_err-near-clause-stops c =
    let p = err_from_is_err_and c.from_residual.result c.from_residual.ensures.1 in
    rw (p.1, p.2) (λ k small.
    let low : length c.split_at.result.0.now ≡ c.stages.result = search rules in
    let high : length c.split_at.result.0.now + length c.split_at.result.1.now ≡ length c.args.count.now = search rules in
    let within : length c.split_at.result.0.now ≤ k = omega (arith, low, few (length c.args.a.now) c.stages.result k c.stages.ensures.short small) in
    let fits = room (length c.args.a.now) (length c.split_at.result.0.now) k (length c.split_at.result.1.now) (length c.args.count.now) within high in
    StopsWithin-after c.moved_by_count.new.net (3 * length c.args.a.now * length c.split_at.result.0.now) (adder_size (length c.args.a.now) k + 4 * length c.args.count.now) _ (Grows-refl c.args.net.now) c.in_err-near.ensures.stops (omega (arith, fits.0)))

pub returns-then-is_empty-clause-gates : goal.returns-then-is_empty-clause-gates
returns-then-is_empty-clause-gates c = λ k small.
    let low : length c.split_at.result.0.now ≡ c.stages.result = search rules in
    let high : length c.split_at.result.0.now + length c.split_at.result.1.now ≡ length c.args.count.now = search rules in
    let within : length c.split_at.result.0.now ≤ k = omega (arith, low, few (length c.args.a.now) c.stages.result k c.stages.ensures.short small) in
    let fits = room (length c.args.a.now) (length c.split_at.result.0.now) k (length c.split_at.result.1.now) (length c.args.count.now) within high in
    Grows-weaken c.in_ok-near.ensures.grows (omega (arith, fits.0)) (omega (arith, fits.1))
