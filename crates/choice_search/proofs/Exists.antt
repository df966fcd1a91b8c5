-- A problem has a least list.
use Rattle.std.proofs.Common.{◌≡◌, ℕ, zero, suc, ◌+◌, ◌<◌, List, [], ◌∷◌, ◌++◌, length, get_or, sym, ◌∙◌, ap, subst, refl, inl, inr, ◌⊎◌, arith, length-append, append_assoc}
use Rattle.std.proofs.lemmas.Bool.{cases_lt, cases_eq}
use Rattle.std.proofs.lemmas.List.{append-nil, length_push, nil_from_length}
use Rattle.choice_core.specs.declared.sharings.Choice.{Choice}
use Rattle.choice_core.specs.declared.sharings.Choice.TheVariants.{A}
use Rattle.choice_core.specs.declared.problems.Costs.{Costs}
use Rattle.choice_core.specs.Choices.{place}
use Rattle.choice_core.specs.Problems.{cost_of, Fits, IsAssignment, IsProblem}
use Rattle.choice_core.specs.Least.{IsLater, IsLeast}
use Rattle.choice_core.proofs.Laws.{Before}
use Rattle.choice_search.specs.Arenas.{choices_at}
use Rattle.choice_search.proofs.Later.{place_same}
use Rattle.choice_search.proofs.Longer.{fits_longer}
use Rattle.choice_search.proofs.Prefixes.{choice_place, allowed_next}
use Rattle.choice_search.proofs.Splits.{choice_allowed, some_choice}

later_trans : (cs ds es : List Choice) → IsLater es ds → IsLater ds cs → IsLater es cs
unfolding IsLater
later_trans cs ds [] one two = absurd one
later_trans cs [] (e ∷ es) one two = absurd one
later_trans [] (d ∷ ds) (e ∷ es) one two = absurd two
later_trans (c ∷ cs) (d ∷ ds) (e ∷ es) (inl more) (inl less) = inl (omega (arith, more, less))
later_trans (c ∷ cs) (d ∷ ds) (e ∷ es) (inl more) (inr (same, two)) = inl (let places = ap place same in omega (arith, more, places))
later_trans (c ∷ cs) (d ∷ ds) (e ∷ es) (inr (same, one)) (inl less) = inl (let places = ap place same in omega (arith, less, places))
later_trans (c ∷ cs) (d ∷ ds) (e ∷ es) (inr (same, one)) (inr (like, two)) = inr (same ∙ like, later_trans cs ds es one two)

one_is_later : (cs ds : List Choice) → length cs ≡ length ds → IsLater cs ds ⊎ (IsLater ds cs ⊎ (cs ≡ ds))
unfolding IsLater
one_is_later [] [] same = inr (inr refl)
one_is_later [] (d ∷ ds) same = absurd (omega (arith, same))
one_is_later (c ∷ cs) [] same = absurd (omega (arith, same))
one_is_later (c ∷ cs) (d ∷ ds) same = elim (cases_lt (place d) (place c)) [
  | inl more ↦ inl (inl more)
  | inr least ↦ elim (cases_eq (place c) (place d)) [
    | inl even ↦ by_rest (place_same c d even) (one_is_later cs ds (omega (arith, same)))
    | inr apart ↦ inr (inl (inl (omega (arith, least, apart))))
  ]
]
  where
    by_rest : c ≡ d → IsLater cs ds ⊎ (IsLater ds cs ⊎ (cs ≡ ds)) → IsLater (c ∷ cs) (d ∷ ds) ⊎ (IsLater (d ∷ ds) (c ∷ cs) ⊎ (c ∷ cs ≡ d ∷ ds))
    by_rest is (inl later) = inl (inr (is, later))
    by_rest is (inr (inl later)) = inr (inl (inr (sym is, later)))
    by_rest is (inr (inr rest)) = inr (inr (cc))

before_one : (p : Costs) (cs ds : List Choice) → length cs ≡ length ds → Before p cs ds ⊎ Before p ds cs
before_one p cs ds same = elim (cases_lt (cost_of p cs) (cost_of p ds)) [
  | inl less ↦ inl (inl less)
  | inr least ↦ elim (cases_eq (cost_of p cs) (cost_of p ds)) [
    | inl even ↦ by_order even (one_is_later cs ds same)
    | inr apart ↦ inr (inl (omega (arith, least, apart)))
  ]
]
  where
    by_order : cost_of p cs ≡ cost_of p ds → IsLater cs ds ⊎ (IsLater ds cs ⊎ (cs ≡ ds)) → Before p cs ds ⊎ Before p ds cs
    by_order even (inl later) = inr (inr (sym even, inl later))
    by_order even (inr (inl later)) = inl (inr (even, inl later))
    by_order even (inr (inr is)) = inl (inr (even, inr (sym is)))

before_all : (p : Costs) (cs ds es : List Choice) → Before p cs ds → Before p ds es → Before p cs es
before_all p cs ds es (inl less) (inl more) = inl (omega (arith, less, more))
before_all p cs ds es (inl less) (inr (even, rest)) = inl (omega (arith, less, even))
before_all p cs ds es (inr (even, rest)) (inl more) = inl (omega (arith, even, more))
before_all p cs ds es (inr (even, inr same)) (inr (like, rest)) = subst (λ (xs : List Choice). Before p xs es) same (inr (like, rest))
before_all p cs ds es (inr (even, inl one)) (inr (like, inr same)) = subst (λ (xs : List Choice). Before p cs xs) (sym same) (inr (even, inl one))
before_all p cs ds es (inr (even, inl one)) (inr (like, inl two)) = inr (even ∙ like, inl (later_trans cs ds es two one))

-- a list before all that extend the prefix
record LeastBelow (p : Costs) (q cs : List Choice) : Type 0 where
  assigned : IsAssignment p cs
  first : (ds rest : List Choice) → IsAssignment p ds → ds ≡ q ++ rest → Before p cs ds

-- of lists that are least below several prefixes, one is before all
among : (p : Costs) (q : List Choice) (choices : List Choice) → 0 < length choices → ((n : ℕ) → n < length choices → (cs : List Choice) × LeastBelow p (q ++ get_or choices n A ∷ []) cs) → (cs : List Choice) × IsAssignment p cs × ((n : ℕ) → n < length choices → (ds rest : List Choice) → IsAssignment p ds → ds ≡ (q ++ get_or choices n A ∷ []) ++ rest → Before p cs ds)
among p q [] some each = absurd (omega (arith, some))
among p q (c ∷ []) some each = (let one = each 0 (omega arith) in (one.0, one.1.assigned, only one))
  where
    only : (one : (cs : List Choice) × LeastBelow p (q ++ c ∷ []) cs) → (n : ℕ) → n < 1 → (ds rest : List Choice) → IsAssignment p ds → ds ≡ (q ++ get_or (c ∷ []) n A ∷ []) ++ rest → Before p one.0 ds
    only one zero within ds rest other is = one.1.first ds rest other is
    only one (suc n) within ds rest other is = absurd (omega (arith, within))
among p q (c ∷ d ∷ choices) some each =
    let one = each 0 (omega arith) in
    let others = among p q (d ∷ choices) (omega arith) (λ n within. each (suc n) (omega (arith, within))) in
    by_order one others (before_one p one.0 others.0 (one.1.assigned.whole ∙ sym others.1.whole))
  where
    by_order : (one : (cs : List Choice) × LeastBelow p (q ++ c ∷ []) cs) (others : (cs : List Choice) × IsAssignment p cs × ((n : ℕ) → n < length (d ∷ choices) → (ds rest : List Choice) → IsAssignment p ds → ds ≡ (q ++ get_or (d ∷ choices) n A ∷ []) ++ rest → Before p cs ds)) → Before p one.0 others.0 ⊎ Before p others.0 one.0 → (cs : List Choice) × IsAssignment p cs × ((n : ℕ) → n < length (c ∷ d ∷ choices) → (ds rest : List Choice) → IsAssignment p ds → ds ≡ (q ++ get_or (c ∷ d ∷ choices) n A ∷ []) ++ rest → Before p cs ds)
    by_order one others (inl first) = (one.0, one.1.assigned, firsts)
      where
        firsts : (n : ℕ) → n < length (c ∷ d ∷ choices) → (ds rest : List Choice) → IsAssignment p ds → ds ≡ (q ++ get_or (c ∷ d ∷ choices) n A ∷ []) ++ rest → Before p one.0 ds
        firsts zero within ds rest other is = one.1.first ds rest other is
        firsts (suc n) within ds rest other is = before_all p one.0 others.0 ds first (others.2 n (omega (arith, within)) ds rest other is)
    by_order one others (inr first) = (others.0, others.1, seconds)
      where
        seconds : (n : ℕ) → n < length (c ∷ d ∷ choices) → (ds rest : List Choice) → IsAssignment p ds → ds ≡ (q ++ get_or (c ∷ d ∷ choices) n A ∷ []) ++ rest → Before p others.0 ds
        seconds zero within ds rest other is = before_all p others.0 one.0 ds first (one.1.first ds rest other is)
        seconds (suc n) within ds rest other is = others.2 n (omega (arith, within)) ds rest other is

least_below : (p : Costs) → IsProblem p → (n : ℕ) (q : List Choice) → Fits p.own q → length q + n ≡ length p.own → (cs : List Choice) × LeastBelow p q cs
least_below p problem zero q fits whole = (q, record { assigned = record { fits = fits; whole = omega (arith, whole) }; first = same })
  where
    same : (ds rest : List Choice) → IsAssignment p ds → ds ≡ q ++ rest → Before p q ds
    same ds rest other is =
        let size = ap length is in
        let long = length-append q rest in
        let none : rest ≡ [] = nil_from_length rest (let all = other.whole in omega (arith, size, long, all, whole)) in
        let all : ds ≡ q = is ∙ ap (λ (xs : List Choice). q ++ xs) none ∙ append-nil q in
        inr (ap (cost_of p) (sym all), inr all)
least_below p problem (suc n) q fits whole =
    let found = among p q (choices_at p q) (some_choice p problem q (omega (arith, whole))) (λ k within. least_below p problem n (q ++ get_or (choices_at p q) k A ∷ []) (fits_longer p.own q (get_or (choices_at p q) k A) fits (omega (arith, whole)) (choice_allowed p q k within)) (let long = length_push q (get_or (choices_at p q) k A) in omega (arith, long, whole))) in
    (found.0, record { assigned = found.1; first = below found })
  where
    below : (found : (cs : List Choice) × IsAssignment p cs × ((k : ℕ) → k < length (choices_at p q) → (ds rest : List Choice) → IsAssignment p ds → ds ≡ (q ++ get_or (choices_at p q) k A ∷ []) ++ rest → Before p cs ds)) → (ds rest : List Choice) → IsAssignment p ds → ds ≡ q ++ rest → Before p found.0 ds
    below found ds [] other is = absurd (let size = ap length (is ∙ append-nil q) in let all = other.whole in omega (arith, size, all, whole))
    below found ds (d ∷ rest) other is =
        let there = choice_place p q d (allowed_next p.own q d rest (subst (λ (xs : List Choice). Fits p.own xs) is other.fits)) in
        found.2 there.0 there.1 ds rest other (is ∙ sym (append_assoc q (d ∷ []) rest) ∙ ap (λ (c : Choice). (q ++ c ∷ []) ++ rest) (sym there.2))

pub some_least : (p : Costs) → IsProblem p → (cs : List Choice) × IsLeast p cs
unfolding Fits
some_least p problem =
    let found = least_below p problem (length p.own) [] tt (omega arith) in
    (found.0, record { assigned = found.1.assigned; before_all = λ ds other. found.1.first ds ds other refl })
