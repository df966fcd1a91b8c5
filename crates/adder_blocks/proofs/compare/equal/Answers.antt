use Rattle.std.proofs.Common.{◌≡◌, ◌*◌, Bool, not, List, [], length, sym, ap, ◌∙◌, arith}
use Rattle.std.proofs.lemmas.Result.{err_from_is_err_and}
use Rattle.std.proofs.lemmas.List.{length-map}
use Rattle.hy_bits.specs.Bits.{xor, bitwise}
use Rattle.gate_net.specs.declared.literal.Lit.{Lit}
use Rattle.gate_net.specs.Circuit.{Circuit}
use Rattle.gate_net.specs.Meaning.{value}
use Rattle.gate_net.proofs.GrowthLaws.{Grows-then, StopsWithin-after}
use Rattle.gate_net.specs.Spelled.{values}
use Rattle.gate_net.proofs.ListLaws.{length-from_values}
use Rattle.hy_bits.proofs.BitLaws.{eq-bits, length-bitwise}
use Rattle.std.specs.List.{list_all}
use Rattle.adder_blocks.proofs.compare.equal.Goals as goal

length_agreements : (n m : Circuit) (a b out : List Lit) → ((bits : List Bool) → values m bits out ≡ bitwise (λ x y. not (xor x y)) (values n bits a) (values n bits b)) → length a ≡ length b → length out ≡ length a
length_agreements n m a b out h same =
    length-from_values m out (bitwise (λ x y. not (xor x y)) (values n [] a) (values n [] b)) (h [])
    ∙ length-bitwise (λ x y. not (xor x y)) (values n [] a) (values n [] b) (length-map a (value n []) ∙ same ∙ sym (length-map b (value n [])))
    ∙ length-map a (value n [])

pub all_of-requires-clause-some : goal.all_of-requires-clause-some
all_of-requires-clause-some c =
    let long = length_agreements c.args.net.now c.agreements.new.net c.args.a.now c.args.b.now c.in_ok-agreements.agreements.items c.in_ok-agreements.ensures.value c.requires.same_length in
    rw c.deref.ensures.value (omega (arith, c.requires.some))

pub returns-in_err-all-clause-grows : goal.returns-in_err-all-clause-grows
returns-in_err-all-clause-grows c =
    let long = length_agreements c.args.net.now c.agreements.new.net c.args.a.now c.args.b.now c.in_ok-agreements.agreements.items c.in_ok-agreements.ensures.value c.requires.same_length in
    let grows = rw (c.deref.ensures.value, long) at c.in_err-all.ensures.grows in
    Grows-then c.in_ok-agreements.ensures.grows grows (omega arith) (omega arith)

pub returns-in_err-all-clause-stops : goal.returns-in_err-all-clause-stops
returns-in_err-all-clause-stops c =
    let long = length_agreements c.args.net.now c.agreements.new.net c.args.a.now c.args.b.now c.in_ok-agreements.agreements.items c.in_ok-agreements.ensures.value c.requires.same_length in
    let stops = rw (c.deref.ensures.value, long) at c.in_err-all.ensures.stops in
    let p = err_from_is_err_and c.from_residual-in_err-all.result c.from_residual-in_err-all.ensures.1 in
    rw (p.1, p.2) (StopsWithin-after c.all_of.new.net (length c.args.a.now) (2 * length c.args.a.now) _ c.in_ok-agreements.ensures.grows stops (omega arith))

pub returns-clause-value : goal.returns-clause-value
returns-clause-value c = λ bits.
    let n = c.args.net.now in
    let known = rw c.deref.ensures.value at (c.in_ok-all.ensures.value bits) in
    known
    ∙ ap (list_all (λ b. b)) (c.in_ok-agreements.ensures.value bits)
    ∙ sym (eq-bits (values n bits c.args.a.now) (values n bits c.args.b.now) (length-map c.args.a.now (value n bits) ∙ c.requires.same_length ∙ sym (length-map c.args.b.now (value n bits))))

pub returns-clause-level : goal.returns-clause-level
returns-clause-level c = λ d k short low high.
    let long = length_agreements c.args.net.now c.agreements.new.net c.args.a.now c.args.b.now c.in_ok-agreements.agreements.items c.in_ok-agreements.ensures.value c.requires.same_length in
    let known = rw c.deref.ensures.value at c.in_ok-all.ensures.level in
    known d k (omega (arith, long, short)) (c.in_ok-agreements.ensures.level d low high)

pub returns-clause-grows : goal.returns-clause-grows
returns-clause-grows c =
    let long = length_agreements c.args.net.now c.agreements.new.net c.args.a.now c.args.b.now c.in_ok-agreements.agreements.items c.in_ok-agreements.ensures.value c.requires.same_length in
    let grows = rw (c.deref.ensures.value, long) at c.in_ok-all.ensures.grows in
    Grows-then c.in_ok-agreements.ensures.grows grows (omega arith) (omega arith)
