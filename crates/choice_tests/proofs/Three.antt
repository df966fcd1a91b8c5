-- The problem of the test meets what a problem has to meet.
use Rattle.std.proofs.Common.{◌≡◌, List, refl, [], ◌∷◌, length, Some, None, Result, arith}
use Rattle.std.specs.List.{All}
use Rattle.std.specs.Result.{IfOk}
use Rattle.std.proofs.lemmas.List.Elements.{All-nil, All-cons}
use Rattle.std.proofs.lemmas.Result.{IfOk-weaker}
use Rattle.choice_core.specs.declared.sharings.Choice.TheVariants.{Y, S}
use Rattle.choice_core.specs.declared.sharings.Sharing.{Sharing}
use Rattle.choice_core.specs.declared.sharings.Sharing.TheVariants.{Arithmetic, Boolean, Yao}
use Rattle.choice_core.specs.declared.problems.Fan.{Fan}
use Rattle.choice_core.specs.declared.problems.Costs.{Costs}
use Rattle.choice_core.specs.Problems.{Row, price_of, Fits, HasChoice, Ascends, IsFan, IsProblem, IsAssignment}
use Rattle.choice_core.proofs.Parts.{problem_of_parts}

abbrev one : Row
one = None ∷ Some 1 ∷ Some 1 ∷ Some 0 ∷ []

abbrev two : Row
two = None ∷ Some 0 ∷ Some 1 ∷ Some 1 ∷ []

abbrev last : Row
last = None ∷ Some 1 ∷ Some 0 ∷ Some 0 ∷ []

abbrev pub three_rows : List Row
three_rows = one ∷ two ∷ last ∷ []

abbrev fan : Fan
fan = record { from = 1; to = 2 ∷ []; price = (0 ∷ 0 ∷ 0 ∷ []) ∷ (0 ∷ 0 ∷ 0 ∷ []) ∷ (0 ∷ 1 ∷ 0 ∷ []) ∷ [] }

abbrev pub three_fans : List Fan
three_fans = fan ∷ []

fan_is : IsFan 3 fan
unfolding Ascends
fan_is = record { some = omega arith; ascends = (omega arith, omega arith, tt); free = free }
  where
    free : (s : Sharing) → price_of fan s s ≡ 0
    free Arithmetic = refl
    free Boolean = refl
    free Yao = refl

three_fans_are : All (IsFan 3) three_fans
three_fans_are = All-cons (IsFan 3) fan [] fan_is (All-nil (IsFan 3))

pub all_are_fans : (own : List Row) (fans : List Fan) → own ≡ three_rows → fans ≡ three_fans → All (IsFan (length own)) fans
all_are_fans own fans own_is fans_is = rw (own_is, fans_is) three_fans_are

pub three_is : {E : Type 0} (r : Result Costs E) → IfOk r (λ p. p ≡ record { own = three_rows; fans = three_fans }) → IfOk r (λ p. IsProblem p)
three_is r is =
    problem_of_parts r three_rows three_fans is
    (All-cons HasChoice one (two ∷ last ∷ []) (Y, refl) (All-cons HasChoice two (last ∷ []) (Y, refl) (All-cons HasChoice last [] (Y, refl) (All-nil HasChoice))))
    three_fans_are
    (omega arith)

pub three_assigned : {E : Type 0} (r : Result Costs E) → IfOk r (λ p. p ≡ record { own = three_rows; fans = three_fans }) → IfOk r (λ p. IsAssignment p (S ∷ Y ∷ Y ∷ []))
unfolding Fits
three_assigned r is = IfOk-weaker r (λ p. p ≡ record { own = three_rows; fans = three_fans }) (λ p. IsAssignment p (S ∷ Y ∷ Y ∷ [])) (λ p is. rw is (record { fits = (refl, (refl, (refl, tt))); whole = refl })) is

pub three_long : {E : Type 0} (r : Result Costs E) → IfOk r (λ p. p ≡ record { own = three_rows; fans = three_fans }) → IfOk r (λ p. length p.own ≡ 3)
three_long r is = IfOk-weaker r (λ p. p ≡ record { own = three_rows; fans = three_fans }) (λ p. length p.own ≡ 3) (λ p is. rw is refl) is
