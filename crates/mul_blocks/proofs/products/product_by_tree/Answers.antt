use Rattle.std.proofs.Common.{◌≡◌, ℕ, ◌+◌, ◌-◌, ◌*◌, ◌^◌, length, ap, ◌∙◌, refl, arith}
use Rattle.mul_blocks.proofs.ModLaws.{pow-more}
use Rattle.mul_blocks.proofs.products.product_by_tree.Goals as goal

pub returns-then-a-eq1-clause-level : goal.returns-then-a-eq1-clause-level
returns-then-a-eq1-clause-level c = λ d k small some low high.
    let out = c.in_ok-only.ensures.level d low (high 0 (record { code = 0 }) (omega (arith, c.requires.some, c.requires.same_length))) in
    λ i e l. omega (arith, out i e l, some)

pub returns-clause-level : goal.returns-clause-level
returns-clause-level c = λ d k small some low high.
    let next : k - 1 + 1 ≡ k = omega (arith, some) in
    let power : 2 ^ k ≡ 2 ^ (k - 1) * 2 = ap (λ (j : ℕ). 2 ^ j) (let e : k ≡ k - 1 + 1 = omega (arith, some) in e) ∙ pow-more (k - 1) in
    let rows = c.in_ok-x.ensures.level d (k - 1) (omega (arith, small, power, c.requires.same_length)) low high in
    let long : length c.deref.result.now ≡ length c.args.a.now = ap length c.deref.ensures.value ∙ c.in_ok-x.ensures.same.0 in
    let out = c.in_ok-out.ensures.depth refl (d + 1 + 2 * (k - 1)) k (omega (arith, long, small)) (rw c.deref.ensures.value rows.0) (rw c.deref-2.ensures.value rows.1) in
    λ i e l. omega (arith, out i e l, next)
