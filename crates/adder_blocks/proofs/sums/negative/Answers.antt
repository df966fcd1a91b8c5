use Rattle.std.proofs.Common.{◌≡◌, ℕ, ◌+◌, ◌-◌, ◌%◌, ◌^◌, replicate, List, length, refl, ap, ◌∙◌, arith, rules}
use Rattle.gate_net.specs.declared.literal.Lit.{Lit}
use Rattle.gate_net.specs.Spelled.{values}
use Rattle.gate_net.proofs.ListLaws.{values-zeros}
use Rattle.hy_bits.specs.Bits.{number}
use Rattle.hy_bits.specs.Words.{word_sub, word_neg}
use Rattle.hy_bits.proofs.BitLaws.{number-zeros}
use Rattle.std.proofs.lemmas.List.{length-replicate}
use Rattle.gate_net.proofs.MeaningLaws.{level-constant}
use Rattle.gate_net.proofs.ListLaws.{AllWithin-replicate}
use Rattle.adder_blocks.proofs.sums.negative.Goals as goal

zero_minus : (m x y : ℕ) → x ≡ 0 → word_sub m x y ≡ word_neg m y
zero_minus m x y e = ap (λ (k : ℕ). k % m) (let f : x + (m - y) ≡ m - y = omega arith in f)

minus_zeros : (zs : List Lit) (k x y : ℕ) → length zs ≡ k → x ≡ 0 → word_sub (2 ^ length zs) x y ≡ word_neg (2 ^ k) y
minus_zeros zs k x y long e = ap (λ (m : ℕ). word_sub (2 ^ m) x y) long ∙ zero_minus (2 ^ k) x y e

pub returns-clause-value : goal.returns-clause-value
returns-clause-value c = λ bits.
    let n = c.args.net.now in
    let zeros : c.in_ok-zeros.zeros.items ≡ replicate (length c.args.a.now) (record { code = 0 }) = search rules in
    let known = rw (c.deref.ensures.value, zeros) at (c.in_ok-out.ensures.value bits) in
    let nothing = ap number (values-zeros n bits (length c.args.a.now) (record { code = 0 }) refl) ∙ number-zeros (length c.args.a.now) in
    known ∙ minus_zeros (replicate (length c.args.a.now) (record { code = 0 })) (length c.args.a.now) (number (values n bits (replicate (length c.args.a.now) (record { code = 0 })))) (number (values n bits c.args.a.now)) (length-replicate (length c.args.a.now) (let l : Lit = record { code = 0 } in l)) nothing

pub returns-clause-depth : goal.returns-clause-depth
returns-clause-depth c = λ shallow d k small low.
    let zeros : c.in_ok-zeros.zeros.items ≡ replicate (length c.args.a.now) (record { code = 0 }) = search rules in
    let known = rw (c.deref.ensures.value, zeros) at c.in_ok-out.ensures.depth in
    known shallow d k (omega (arith, small, length-replicate (length c.args.a.now) (let l : Lit = record { code = 0 } in l)))
    (AllWithin-replicate c.args.net.now d (length c.args.a.now) (record { code = 0 }) (omega (arith, level-constant c.args.net.now (record { code = 0 }) (omega arith)))) low
