use Rattle.std.proofs.lemmas.Result.{err_from_is_err_and}
use Rattle.gate_net.proofs.GrowthLaws.{Grows-refl, Grows-then, Grows-weaken, StopsWithin-after}
use Rattle.std.proofs.Common.{◌≡◌, ℕ, ◌+◌, ◌*◌, ◌%◌, ◌^◌, refl, sym, ap, ◌∙◌, arith, length}
use Rattle.hy_bits.specs.Bits.{number}
use Rattle.gate_net.proofs.ListLaws.{AllWithin-Grows, values-Grows}
use Rattle.mul_blocks.proofs.ModLaws.{plus-mod}
use Rattle.mul_blocks.proofs.carry_save.four_to_two.Goals as goal

-- three of four words first, and then the fourth
joined : (l k a b s c x y z w v : ℕ) → l ≡ k → (a + b) % 2 ^ l ≡ (s + c + v) % 2 ^ l → (s + c) % 2 ^ k ≡ (x + y + z) % 2 ^ k → v ≡ w → (a + b) % 2 ^ k ≡ (x + y + (z + w)) % 2 ^ k
joined l k a b s c x y z w v e p q r =
    ap (λ (j : ℕ). (a + b) % 2 ^ j) (sym e) ∙ p ∙ ap (λ (j : ℕ). (s + c + v) % 2 ^ j) e ∙ ap (λ (u : ℕ). (s + c + u) % 2 ^ k) r
    ∙ plus-mod (2 ^ k) (s + c) (x + y + z) w w q refl ∙ ap (λ (u : ℕ). u % 2 ^ k) (omega arith)

pub returns-clause-value : goal.returns-clause-value
returns-clause-value c = λ bits.
    let known = rw (c.deref.ensures.value, c.deref-2.ensures.value) at (c.in_ok-out.ensures.value bits) in
    joined _ _ _ _ _ _ _ _ _ _ _ c.in_ok-sums.ensures.same.0 known (c.in_ok-sums.ensures.value bits) (ap number (values-Grows c.in_ok-sums.ensures.grows bits c.args.w.now c.requires.fourth))

pub returns-clause-level : goal.returns-clause-level
returns-clause-level c = λ d low_x low_y low_z low_w.
    let first = c.in_ok-sums.ensures.level d low_x low_y low_z in
    let low = AllWithin-Grows c.in_ok-sums.ensures.grows d c.args.w.now c.requires.fourth low_w in
    let out = c.in_ok-out.ensures.level (d + 1) (rw c.deref.ensures.value first.0) (rw c.deref-2.ensures.value first.1) (λ k e l. omega (arith, low k e l)) in
    (λ k e l. omega (arith, out.0 k e l), λ k e l. omega (arith, out.1 k e l))

pub returns-in_err-sums-clause-grows : goal.returns-in_err-sums-clause-grows
returns-in_err-sums-clause-grows c = Grows-weaken c.in_err-sums.ensures.grows (omega arith) (omega arith)

pub returns-in_err-sums-clause-stops : goal.returns-in_err-sums-clause-stops
returns-in_err-sums-clause-stops c =
    let p = err_from_is_err_and c.from_residual.result c.from_residual.ensures.1 in
    rw (p.1, p.2) (StopsWithin-after c.carry_save.new.net (5 * length c.args.x.now) (10 * length c.args.x.now) _ (Grows-refl c.args.net.now) c.in_err-sums.ensures.stops (omega arith))

pub returns-in_err-out-clause-grows : goal.returns-in_err-out-clause-grows
returns-in_err-out-clause-grows c =
    let long : length c.deref.result.now ≡ length c.args.x.now = ap length c.deref.ensures.value ∙ c.in_ok-sums.ensures.same.0 in
    Grows-then c.in_ok-sums.ensures.grows c.in_err-out.ensures.grows (omega (arith, long)) (omega (arith, long))

pub returns-in_err-out-clause-stops : goal.returns-in_err-out-clause-stops
returns-in_err-out-clause-stops c =
    let long : length c.deref.result.now ≡ length c.args.x.now = ap length c.deref.ensures.value ∙ c.in_ok-sums.ensures.same.0 in
    let p = err_from_is_err_and c.from_residual-in_err-out.result c.from_residual-in_err-out.ensures.1 in
    rw (p.1, p.2) (StopsWithin-after c.carry_save-2.new.net (5 * length c.deref.result.now) (10 * length c.args.x.now) _ c.in_ok-sums.ensures.grows c.in_err-out.ensures.stops (omega (arith, long)))

pub returns-clause-grows : goal.returns-clause-grows
returns-clause-grows c =
    let long : length c.deref.result.now ≡ length c.args.x.now = ap length c.deref.ensures.value ∙ c.in_ok-sums.ensures.same.0 in
    Grows-then c.in_ok-sums.ensures.grows c.in_ok-out.ensures.grows (omega (arith, long)) (omega (arith, long))
