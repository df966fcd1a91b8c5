-- When a prefix closes.
use Rattle.std.proofs.Common.{◌≡◌, ◌≢◌, ℕ, ◌+◌, ◌<◌, ◌≤◌, inl, inr, refl, sym, ◌∙◌, ap, subst, Bool, true, false, not, MatchBool, eqb, nat_lt, List, [], ◌∷◌, length, drop, get_or, arith}
use Rattle.std.proofs.lemmas.Bool.{cases_eq}
use Rattle.std.proofs.lemmas.Bool.Decides.{nat_tests}
use Rattle.std.proofs.lemmas.List.{drop_more, drop_all}
use Rattle.choice_core.specs.declared.sharings.Choice.{Choice}
use Rattle.choice_core.specs.declared.sharings.Choice.TheVariants.{A, Y, C, S}
use Rattle.choice_core.specs.Choices.{place}
use Rattle.choice_core.specs.declared.problems.Costs.{Costs}
use Rattle.choice_core.specs.Problems.{cost_of}
use Rattle.choice_core.specs.Bound.{bound_of}
use Rattle.choice_core.specs.Least.{IsLater, ClosesAt}
use Rattle.choice_check.specs.Walks.{later}

pub place_same : (c d : Choice) → place c ≡ place d → c ≡ d
place_same A A is = refl
place_same A Y is = absurd (cc)
place_same A C is = absurd (cc)
place_same A S is = absurd (cc)
place_same Y A is = absurd (cc)
place_same Y Y is = refl
place_same Y C is = absurd (cc)
place_same Y S is = absurd (cc)
place_same C A is = absurd (cc)
place_same C Y is = absurd (cc)
place_same C C is = refl
place_same C S is = absurd (cc)
place_same S A is = absurd (cc)
place_same S Y is = absurd (cc)
place_same S C is = absurd (cc)
place_same S S is = refl

pub later_end : (prefix ds : List Choice) (i : ℕ) → length prefix ≤ i → later (drop i prefix) ds ≡ false
unfolding later
later_end prefix ds i past = rw (drop_all i prefix past) refl

later_none : (cs : List Choice) → later cs [] ≡ false
unfolding later
later_none [] = refl
later_none (c ∷ cs) = refl

pub later_short : (prefix ds : List Choice) (i : ℕ) → length ds ≤ i → later (drop i prefix) (drop i ds) ≡ false
later_short prefix ds i past = rw (drop_all i ds past) (later_none (drop i prefix))

pub later_apart : (prefix ds : List Choice) (i : ℕ) (c d : Choice) → i < length prefix → i < length ds → place (get_or prefix i c) ≢ place (get_or ds i d) → later (drop i prefix) (drop i ds) ≡ nat_lt (place (get_or ds i d)) (place (get_or prefix i c))
unfolding later
later_apart prefix ds i c d one two apart =
    let test : eqb (place (get_or prefix i c)) (place (get_or ds i d)) ≡ false = grind (arith, nat_tests) in
    rw (drop_more prefix i c one, drop_more ds i d two, test) refl

pub later_on : (prefix ds : List Choice) (i : ℕ) (c d : Choice) → i < length prefix → i < length ds → place (get_or prefix i c) ≡ place (get_or ds i d) → later (drop i prefix) (drop i ds) ≡ later (drop (i + 1) prefix) (drop (i + 1) ds)
unfolding later
later_on prefix ds i c d one two same =
    let test : eqb (place (get_or prefix i c)) (place (get_or ds i d)) ≡ true = grind (arith, nat_tests) in
    rw (drop_more prefix i c one, drop_more ds i d two, test) refl

pub later_is : (cs ds : List Choice) → later cs ds ≡ true → IsLater cs ds
unfolding later IsLater
later_is [] ds is = absurd (cc)
later_is (c ∷ cs) [] is = absurd (cc)
later_is (c ∷ cs) (d ∷ ds) is = elim (cases_eq (place c) (place d)) [
  | inl same ↦ (
      let test : eqb (place c) (place d) ≡ true = grind (arith, nat_tests) in
      inr (place_same c d same, later_is cs ds (rw test at is)))
  | inr apart ↦ (
      let test : eqb (place c) (place d) ≡ false = grind (arith, nat_tests) in
      let less : nat_lt (place d) (place c) ≡ true = rw test at is in
      inl (grind (arith, nat_tests)))
]

pub is_later : (cs ds : List Choice) → IsLater cs ds → later cs ds ≡ true
unfolding later IsLater
is_later [] ds is = absurd is
is_later (c ∷ cs) [] is = absurd is
is_later (c ∷ cs) (d ∷ ds) (inl less) =
    let test : eqb (place c) (place d) ≡ false = grind (arith, nat_tests) in
    let before : nat_lt (place d) (place c) ≡ true = grind (arith, nat_tests) in
    rw (test, before) refl
is_later (c ∷ cs) (d ∷ ds) (inr (same, rest)) =
    let places = ap place same in
    let test : eqb (place c) (place d) ≡ true = grind (arith, nat_tests) in
    rw test (is_later cs ds rest)

pub later_self : (cs : List Choice) → later cs cs ≡ false
unfolding later
later_self [] = refl
later_self (c ∷ cs) =
    let test : eqb (place c) (place c) ≡ true = grind (arith, nat_tests) in
    rw test (later_self cs)

-- lists of one length are the same where neither is later
pub neither : (cs ds : List Choice) → length cs ≡ length ds → later cs ds ≡ false → later ds cs ≡ false → cs ≡ ds
unfolding later
neither [] [] size one two = refl
neither [] (d ∷ ds) size one two = absurd (omega (arith, size))
neither (c ∷ cs) [] size one two = absurd (omega (arith, size))
neither (c ∷ cs) (d ∷ ds) size one two = elim (cases_eq (place c) (place d)) [
  | inl same ↦ (
      let test : eqb (place c) (place d) ≡ true = grind (arith, nat_tests) in
      let test' : eqb (place d) (place c) ≡ true = grind (arith, nat_tests) in
      let rest = neither cs ds (omega (arith, size)) (rw test at one) (rw test' at two) in
      ap (λ (e : Choice). e ∷ cs) (place_same c d same) ∙ ap (λ (es : List Choice). d ∷ es) rest)
  | inr apart ↦ (
      let test : eqb (place c) (place d) ≡ false = grind (arith, nat_tests) in
      let test' : eqb (place d) (place c) ≡ false = grind (arith, nat_tests) in
      let less : nat_lt (place d) (place c) ≡ false = rw test at one in
      let more : nat_lt (place c) (place d) ≡ false = rw test' at two in
      absurd (grind (arith, nat_tests)))
]

pub whole_is : (cs ds : List Choice) (b : Bool) → length cs ≡ length ds → later cs ds ≡ false → b ≡ later ds cs → MatchBool (not b) (cs ≡ ds) (cs ≡ ds → ⊥)
whole_is cs ds true size one two = λ same. let none = later_self ds in let is = subst (λ (es : List Choice). true ≡ later ds es) same two in absurd (cc)
whole_is cs ds false size one two = neither cs ds size one (sym two)

pub not_later : (cs ds : List Choice) → later cs ds ≡ true → cs ≡ ds → ⊥
not_later cs ds is same = let none = later_self ds in let is' = subst (λ (es : List Choice). later es ds ≡ true) same is in absurd (cc)

-- what is left to ask where no other case holds
pub closes_whole : (p : Costs) (cs prefix : List Choice) (b : Bool) → MatchBool b (prefix ≡ cs) (prefix ≡ cs → ⊥) → (cost_of p cs < bound_of p prefix → ⊥) → (bound_of p prefix ≡ cost_of p cs → later prefix cs ≡ true → ⊥) → MatchBool b (ClosesAt p cs prefix) (ClosesAt p cs prefix → ⊥)
closes_whole p cs prefix true same no_more no_later = inr (inr same)
closes_whole p cs prefix false apart no_more no_later = λ (closes : ClosesAt p cs prefix). elim closes [
  | inl more ↦ no_more more
  | inr rest ↦ elim rest [
    | inl even ↦ no_later even.0 (is_later prefix cs even.1)
    | inr same ↦ apart same
  ]
]
