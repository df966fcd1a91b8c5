use Rattle.std.proofs.Common.{◌≡◌, ◌%◌, List, ℕ, slice_index, sym, ap, ◌∙◌}
use Rattle.hy_bits.specs.Words.{modulus}
use Rattle.hy_bits.specs.declared.turns.Role.{Role}
use Rattle.share_core.specs.declared.instr.InstrKind.TheVariants.{MulA}
use Rattle.share_core.specs.Arithmetic.{difference_of, product_of}
use Rattle.share_core.specs.Instructions.{dealt_A, half_of}
use Rattle.dealer.proofs.Steps.{product_is, rest_is, three_are}
use Rattle.dealer.proofs.halves.triple_half.Goals as goal

pub returns-in-P1 : goal.returns-in-P1
returns-in-P1 c =
    let m : ℕ = modulus c.args.w in
    let words : List ℕ = c.args.words.now in
    let product : c.mul-c.result ≡ product_of m (slice_index words 0) (slice_index words 1) % m = product_is m c.truncate-a.result c.truncate-b.result c.mul-c.result (slice_index words 0) (slice_index words 1) c.mul-c.ensures.value c.truncate-a.ensures.value c.truncate-b.ensures.value in
    let first : c.sub.result ≡ difference_of m (slice_index words 0) (slice_index words 2) = rest_is m c.truncate-a.result c.truncate-first_a.result c.sub.result (slice_index words 0) (slice_index words 2) c.sub.ensures.value c.truncate-a.ensures.value c.truncate-first_a.ensures.value in
    let second : c.sub-in-P1.result ≡ difference_of m (slice_index words 1) (slice_index words 3) = rest_is m c.truncate-b.result c.truncate-first_b.result c.sub-in-P1.result (slice_index words 1) (slice_index words 3) c.sub-in-P1.ensures.value c.truncate-b.ensures.value c.truncate-first_b.ensures.value in
    let third : c.sub-in-P1-2.result ≡ difference_of m (product_of m (slice_index words 0) (slice_index words 1)) (slice_index words 4) = rest_is m c.mul-c.result c.truncate-first_c.result c.sub-in-P1-2.result (product_of m (slice_index words 0) (slice_index words 1)) (slice_index words 4) c.sub-in-P1-2.ensures.value product c.truncate-first_c.ensures.value in
    c.half_with-in-P1.ensures
    ∙ ap half_of (three_are c.sub.result c.sub-in-P1.result c.sub-in-P1-2.result _ _ _ first second third)
    ∙ ap (λ (role : Role). half_of (dealt_A MulA c.args.w role c.args.words.now)) (sym c.in-P1.is)
