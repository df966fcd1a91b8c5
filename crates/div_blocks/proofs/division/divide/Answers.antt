use Rattle.hy_bits.specs.Sizes.{divider_size}
use Rattle.std.proofs.Common.{◌≡◌, ℕ, ◌+◌, ◌*◌, ◌^◌, ◌<◌, Bool, List, length, sym, ap, ◌∙◌, subst, arith}
use Rattle.std.proofs.lemmas.Result.{err_from_is_err_and}
use Rattle.std.proofs.lemmas.List.{length-map}
use Rattle.hy_bits.specs.Words.{word_div_u, word_rem_u}
use Rattle.hy_bits.proofs.BitLaws.{number-lt_of}
use Rattle.gate_net.specs.declared.literal.Lit.{Lit}
use Rattle.gate_net.specs.Circuit.{Circuit}
use Rattle.gate_net.specs.Meaning.{value}
use Rattle.gate_net.proofs.GrowthLaws.{Grows-refl, Grows-weaken, StopsWithin-after}
use Rattle.gate_net.specs.Spelled.{values, spelled}
use Rattle.div_blocks.specs.Division.{quotient_of, remainder_of}
use Rattle.div_blocks.proofs.SignLaws.{all-below, one-quotient, one-remainder, signed-gates, signed-ands}
use Rattle.div_blocks.proofs.division.divide.Goals as goal
use Rattle.div_blocks.proofs.division.divide.Goals.{else-signed-via-then-signed+else-a-gt1, else-signed-via-else-signed}

pub returns-in_err-out-clause-gates : goal.returns-in_err-out-clause-gates
returns-in_err-out-clause-gates c = λ k small.
    Grows-weaken c.in_err-out.ensures.grows (signed-gates (length c.args.a.now) k (omega (arith, c.if-a-gt1.true)) small) (signed-ands (length c.args.a.now))

pub returns-in_err-out-clause-stops : goal.returns-in_err-out-clause-stops
returns-in_err-out-clause-stops c =
    let p = err_from_is_err_and c.from_residual.result c.from_residual.ensures.1 in
    rw (p.1, p.2) (λ k small.
    StopsWithin-after c.divide_signed.new.net (3 * (length c.args.a.now * length c.args.a.now) + 17 * length c.args.a.now) (divider_size (length c.args.a.now) k) _ (Grows-refl c.args.net.now) c.in_err-out.ensures.stops (omega (arith, signed-gates (length c.args.a.now) k (omega (arith, c.if-a-gt1.true)) small)))

pub returns-then-a-gt1-clause-gates : goal.returns-then-a-gt1-clause-gates
returns-then-a-gt1-clause-gates c = λ k small.
    Grows-weaken c.in_ok-out.ensures.grows (signed-gates (length c.args.a.now) k (omega (arith, c.if-a-gt1.true)) small) (signed-ands (length c.args.a.now))

pub divide_rows-requires-clause-short : goal.divide_rows-requires-clause-short
divide_rows-requires-clause-short c = λ bits. all-below c.args.net.now bits c.args.b.now (length c.args.a.now) (sym c.requires.same_length)

-- one bit
small-word : (n : Circuit) (bits : List Bool) (ls : List Lit) (k : ℕ) → length ls ≡ k → spelled n bits ls < 2 ^ k
small-word n bits ls k long = number-lt_of k (values n bits ls) (sym (length-map ls (value n bits) ∙ long))

only-quotient : (n : Circuit) (bits : List Bool) (signed : Bool) (a b : List Lit) → length a ≡ 1 → length a ≡ length b → word_div_u (2 ^ length a) (spelled n bits a) (spelled n bits b) ≡ quotient_of signed (length a) (spelled n bits a) (spelled n bits b)
only-quotient n bits signed a b one same =
    subst (λ (k : ℕ). word_div_u (2 ^ k) (spelled n bits a) (spelled n bits b) ≡ quotient_of signed k (spelled n bits a) (spelled n bits b)) (sym one)
    (one-quotient signed (spelled n bits a) (spelled n bits b) (small-word n bits a 1 one) (small-word n bits b 1 (sym same ∙ one)))

only-remainder : (n : Circuit) (bits : List Bool) (signed : Bool) (a b : List Lit) → length a ≡ 1 → length a ≡ length b → word_rem_u (spelled n bits a) (spelled n bits b) ≡ remainder_of signed (length a) (spelled n bits a) (spelled n bits b)
only-remainder n bits signed a b one same =
    subst (λ (k : ℕ). word_rem_u (spelled n bits a) (spelled n bits b) ≡ remainder_of signed k (spelled n bits a) (spelled n bits b)) (sym one)
    (one-remainder signed (spelled n bits a) (spelled n bits b) (small-word n bits a 1 one) (small-word n bits b 1 (sym same ∙ one)))

pub returns-clause-quotient : goal.returns-clause-quotient
returns-clause-quotient c = λ bits.
    let n = c.args.net.now in
    elim c.else-signed.branch [
      | else-signed-via-then-signed+else-a-gt1 w ↦ c.in_ok-out-2.ensures.quotient bits ∙ only-quotient n bits c.args.signed c.args.a.now c.args.b.now (omega (arith, w.if-a-gt1.false, c.requires.some)) c.requires.same_length
      | else-signed-via-else-signed w ↦
          c.in_ok-out-2.ensures.quotient bits
          ∙ ap (λ (s : Bool). quotient_of s (length c.args.a.now) (spelled n bits c.args.a.now) (spelled n bits c.args.b.now)) (sym w.if-signed.false)
    ]

pub returns-clause-remainder : goal.returns-clause-remainder
returns-clause-remainder c = λ bits.
    let n = c.args.net.now in
    elim c.else-signed.branch [
      | else-signed-via-then-signed+else-a-gt1 w ↦ c.in_ok-out-2.ensures.remainder bits ∙ only-remainder n bits c.args.signed c.args.a.now c.args.b.now (omega (arith, w.if-a-gt1.false, c.requires.some)) c.requires.same_length
      | else-signed-via-else-signed w ↦
          c.in_ok-out-2.ensures.remainder bits
          ∙ ap (λ (s : Bool). remainder_of s (length c.args.a.now) (spelled n bits c.args.a.now) (spelled n bits c.args.b.now)) (sym w.if-signed.false)
    ]
