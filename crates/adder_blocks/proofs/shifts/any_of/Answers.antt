use Rattle.std.proofs.Common.{◌≡◌, Bool, true, false, not, nat_lt, List, [], ◌∷◌, map, refl, ap, ◌∙◌, arith}
use Rattle.std.proofs.lemmas.Bool.Decides.{nat_tests}
use Rattle.std.specs.List.{list_all}
use Rattle.hy_bits.specs.Bits.{number}
use Rattle.gate_net.proofs.MeaningLaws.{value-complement}
use Rattle.gate_net.specs.Spelled.{values}
use Rattle.gate_net.proofs.ListLaws.{AllStand-complements, values-complements}
use Rattle.adder_blocks.proofs.shifts.any_of.Goals as goal

-- bits spell more than 0 where some bit is 1
any-number : (bs : List Bool) → not (list_all (λ b. b) (map not bs)) ≡ nat_lt 0 (number bs)
any-number [] = refl
any-number (true ∷ bs) = grind (arith, nat_tests)
any-number (false ∷ bs) = let e = any-number bs in e ∙ grind (arith, nat_tests)

pub all_of-requires-clause-stand : goal.all_of-requires-clause-stand
all_of-requires-clause-stand c = rw (c.deref.ensures.value, c.in_ok-complements.ensures) (AllStand-complements c.args.net.now c.args.ls.now c.requires.stand)

pub returns-clause-value : goal.returns-clause-value
returns-clause-value c = λ bits.
    let known = rw (c.deref.ensures.value, c.in_ok-complements.ensures) at (c.in_ok-none.ensures.value bits) in
    rw c.complement.ensures (
    value-complement c.all_of.new.net bits c.in_ok-none.none
    ∙ ap not (known ∙ ap (list_all (λ b. b)) (values-complements c.args.net.now bits c.args.ls.now))
    ∙ any-number (values c.args.net.now bits c.args.ls.now)
    )
