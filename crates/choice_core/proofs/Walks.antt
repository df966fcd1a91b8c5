-- What the code's tests mean.
use Rattle.std.proofs.Common.{◌≡◌, ℕ, ◌+◌, ◌<◌, ◌≤◌, refl, sym, ◌∙◌, Bool, true, false, ◌||◌, nat_lt, List, length, drop, get_or, Some, None, arith}
use Rattle.std.specs.List.{list_any}
use Rattle.std.proofs.lemmas.List.{at_drop_more, at_drop_all}
use Rattle.std.proofs.lemmas.Bool.Decides.{nat_tests}
use denote.Enum.Bare.{sameb}
use Rattle.choice_core.specs.contracts.sharings.Sharing.{the_type}
use Rattle.choice_core.specs.declared.sharings.Sharing.{Sharing}
use Rattle.choice_core.specs.declared.sharings.Sharing.TheVariants.{Arithmetic, Boolean, Yao}
use Rattle.choice_core.specs.Choices.{same_sharing}
use Rattle.choice_core.specs.Problems.{next_from}

pub same_is : (s t : Sharing) → sameb the_type s t ≡ same_sharing s t
same_is Arithmetic Arithmetic = refl
same_is Arithmetic Boolean = refl
same_is Arithmetic Yao = refl
same_is Boolean Arithmetic = refl
same_is Boolean Boolean = refl
same_is Boolean Yao = refl
same_is Yao Arithmetic = refl
same_is Yao Boolean = refl
same_is Yao Yao = refl

-- a walk over consumers
pub any_found : (test : ℕ → Bool) (xs : List ℕ) (i : ℕ) → i < length xs → test (get_or xs i 0) ≡ true → list_any test (drop i xs) ≡ true
any_found test xs i within passes = at_drop_more (list_any test) xs i 0 within ∙ rw passes refl

pub any_none : (test : ℕ → Bool) (xs : List ℕ) (i : ℕ) → length xs ≤ i → list_any test (drop i xs) ≡ false
any_none test xs i past = at_drop_all (list_any test) xs i past

pub next_found : (k : ℕ) (xs : List ℕ) (i : ℕ) → i < length xs → k ≤ get_or xs i 0 → next_from k (drop i xs) ≡ Some (get_or xs i 0)
unfolding next_from
next_found k xs i within reaches = let test : nat_lt (get_or xs i 0) k ≡ false = grind (arith, nat_tests) in at_drop_more (next_from k) xs i 0 within ∙ rw test refl

pub next_passed : (k : ℕ) (xs : List ℕ) (i : ℕ) → i < length xs → get_or xs i 0 < k → next_from k (drop (i + 1) xs) ≡ next_from k (drop i xs)
unfolding next_from
next_passed k xs i within before = let test : nat_lt (get_or xs i 0) k ≡ true = grind (arith, nat_tests) in sym (at_drop_more (next_from k) xs i 0 within ∙ rw test refl)

pub next_none : (k : ℕ) (xs : List ℕ) (i : ℕ) → length xs ≤ i → next_from k (drop i xs) ≡ None
unfolding next_from
next_none k xs i past = at_drop_all (next_from k) xs i past

pub or_true : (a : Bool) → (a || true) ≡ true
or_true true = refl
or_true false = refl

pub or_nothing_left : (a : Bool) → (a || false) ≡ a
or_nothing_left true = refl
or_nothing_left false = refl
