-- Nine modules have few incomplete prefixes.
use Rattle.std.proofs.Common.{◌≡◌, ◌≢◌, ℕ, zero, suc, ◌+◌, ◌*◌, ◌<◌, ◌≤◌, List, [], ◌∷◌, length, map, get_or, refl, sym, ◌∙◌, inl, inr, arith, zero-add}
use Rattle.std.specs.List.{All, AllPairs, Contains, range_with_len}
use Rattle.std.proofs.lemmas.Bool.{cases_lt}
use Rattle.std.proofs.lemmas.List.{length-map, get_or-map}
use Rattle.std.proofs.lemmas.List.FromFn.{length-range_with_len, get_or-range_with_len}
use Rattle.choice_core.specs.declared.sharings.Choice.{Choice}
use Rattle.choice_core.specs.declared.sharings.Choice.TheVariants.{A, Y, C, S}
use Rattle.choice_core.specs.declared.problems.Costs.{Costs}
use Rattle.choice_core.specs.Choices.{place}
use Rattle.choice_search.specs.Answers.{AllDiffer, HasManyOpen}
use Rattle.choice_search.proofs.Lists.{differ_within}

-- the number of a list of choices: lists in the order of their lengths
abbrev number : List Choice → ℕ
number [] = 0
number (c ∷ cs) = 1 + place c + 4 * number cs

place_small : (c : Choice) → place c < 4
place_small A = omega arith
place_small Y = omega arith
place_small C = omega arith
place_small S = omega arith

-- the greatest number of a list of so many choices
abbrev greatest : ℕ → ℕ
greatest zero = 0
greatest (suc n) = 4 + 4 * greatest n

number_small : (cs : List Choice) (n : ℕ) → length cs ≤ n → number cs ≤ greatest n
number_small [] n short = omega arith
number_small (c ∷ cs) zero short = absurd (omega arith)
number_small (c ∷ cs) (suc n) short = let rest = number_small cs n (omega arith) in let digit = place_small c in omega (arith, rest, digit)

-- digits from 1 to 4 tell the number
digits : (a b m n : ℕ) → a < 4 → b < 4 → 1 + a + 4 * m ≡ 1 + b + 4 * n → (a ≡ b) × (m ≡ n)
digits a b m n low high same = (omega (arith, low, high, same), omega (arith, low, high, same))

place_is : (c d : Choice) → place c ≡ place d → c ≡ d
place_is A A same = refl
place_is A Y same = absurd (omega (arith, same))
place_is A C same = absurd (omega (arith, same))
place_is A S same = absurd (omega (arith, same))
place_is Y A same = absurd (omega (arith, same))
place_is Y Y same = refl
place_is Y C same = absurd (omega (arith, same))
place_is Y S same = absurd (omega (arith, same))
place_is C A same = absurd (omega (arith, same))
place_is C Y same = absurd (omega (arith, same))
place_is C C same = refl
place_is C S same = absurd (omega (arith, same))
place_is S A same = absurd (omega (arith, same))
place_is S Y same = absurd (omega (arith, same))
place_is S C same = absurd (omega (arith, same))
place_is S S same = refl

number_is : (cs ds : List Choice) → number cs ≡ number ds → cs ≡ ds
number_is [] [] same = refl
number_is [] (d ∷ ds) same = absurd (omega (arith, same))
number_is (c ∷ cs) [] same = absurd (omega (arith, same))
number_is (c ∷ cs) (d ∷ ds) same =
    let told = digits (place c) (place d) (number cs) (number ds) (place_small c) (place_small d) same in
    let first = place_is c d told.0 in
    let rest = number_is cs ds told.1 in
    cc

-- different numbers below n are at most n
few_numbers : (n : ℕ) (xs : List ℕ) → AllPairs (λ one two. one ≢ two) xs → All (λ x. x < n) xs → length xs ≤ n
few_numbers n xs differ below =
    let all : All (Contains (range_with_len 0 n)) xs = λ i d within. (
    let small = below i d within in
    (get_or xs i d, rw length-range_with_len small, get_or-range_with_len 0 n (get_or xs i d) (get_or xs i d) small ∙ zero-add (get_or xs i d))) in
    let size = differ_within xs (range_with_len 0 n) differ all in
    rw length-range_with_len at size

few_lists : (n : ℕ) (qs : List (List Choice)) → AllDiffer qs → All (λ q. length q ≤ n) qs → length qs ≤ greatest n + 1
few_lists n qs differ short =
    let size = length-map qs number in
    let apart : AllPairs (λ one two. one ≢ two) (map number qs) = λ i j d before within. λ same. (
    let inner : j < length qs = omega (arith, size, within) in
    let one = get_or-map number qs i [] d (omega (arith, before, inner)) in
    let two = get_or-map number qs j [] d inner in
    differ i j [] before inner (number_is (get_or qs i []) (get_or qs j []) (sym one ∙ same ∙ two))) in
    let below : All (λ x. x < greatest n + 1) (map number qs) = λ i d within. (
    let inner : i < length qs = omega (arith, size, within) in
    let one = get_or-map number qs i [] d inner in
    let small = number_small (get_or qs i []) n (short i [] inner) in
    omega (arith, one, small)) in
    let few = few_numbers (greatest n + 1) (map number qs) apart below in
    omega (arith, few, size)

pub many_modules : (p : Costs) (cs : List Choice) → HasManyOpen p cs → 9 < length p.own
many_modules p cs many = elim (cases_lt 9 (length p.own)) [
  | inl more ↦ more
  | inr few ↦ (
      let short : All (λ q. length q ≤ 8) many.0 = λ i d within. (let open_ = (many.2 i d within).short in omega (arith, open_, few)) in
      let size = few_lists 8 many.0 many.1 short in
      absurd (let long = many.3 in omega (arith, size, long)))
]
