-- The lists of the modules that follow each module, as they are filled fan by fan.
use Rattle.std.proofs.Common.{◌≡◌, ℕ, ◌+◌, ◌<◌, ◌≤◌, ◌||◌, Bool, true, false, cond, eqb, List, [], ◌∷◌, ◌++◌, length, take, set, get_or, Option, Some, None, sym, ◌∙◌, ap, refl, inl, inr, arith, get_or-set_same, get_or-set_other, length-set, subst}
use Rattle.std.specs.List.{All, IsDistinct}
use Rattle.std.proofs.lemmas.List.Elements.{All-get_or}
use Rattle.std.proofs.lemmas.Bool.{cases_eq}
use Rattle.std.proofs.lemmas.Bool.Decides.{nat_tests}
use Rattle.std.proofs.lemmas.List.Folds.{list_any_more}
use Rattle.std.proofs.lemmas.Map.Keys.{IsDistinct-push}
use Rattle.std.proofs.lemmas.Cmp.{nat_eq_equiv}
use Rattle.choice_core.specs.declared.problems.Fan.{Fan}
use Rattle.choice_core.specs.Problems.{next_from, is_at, lead_to, IsFan}
use Rattle.choice_core.proofs.Walks.{or_true, or_nothing_left}
use Rattle.choice_core.proofs.Rises.{has, has_push}

-- while the fans are looked at: which modules they lead to, and by the marks which of them are listed
pub record IsMarked (m : ℕ) (fans : List Fan) (marks numbers : List ℕ) : Type 0 where
  pub below : (n : ℕ) → n < length marks → get_or marks n 0 ≤ m + 1
  pub marked : (n : ℕ) → n < length marks → has numbers n ≡ eqb (get_or marks n 0) (m + 1)
  pub apart : IsDistinct eqb numbers
  pub are : (n : ℕ) → has numbers n ≡ lead_to fans (m + 1) n

pub marked_none : (m : ℕ) (marks : List ℕ) → ((n : ℕ) → n < length marks → get_or marks n 0 ≤ m) → IsMarked m [] marks []
unfolding IsDistinct
marked_none m marks below = record {
  below = λ n within. (let low = below n within in omega (arith, low));
  marked = λ n within. (let low = below n within in let apart : eqb (get_or marks n 0) (m + 1) ≡ false = grind (arith, nat_tests) in sym apart);
  apart = tt;
  are = λ n. refl;
}

-- one more fan
lead_more : (fans : List Fan) (k i : ℕ) (item : Fan) (n : ℕ) → i < length fans → item ≡ get_or fans i item → lead_to (take (i + 1) fans) k n ≡ (lead_to (take i fans) k n || is_at (next_from k item.to) n)
lead_more fans k i item n within is = list_any_more (λ f. is_at (next_from k f.to) n) fans i item within ∙ ap (λ (f : Fan). lead_to (take i fans) k n || is_at (next_from k f.to) n) (sym is)

same_any : (a b d : Bool) → d ≡ false → a ≡ b → a ≡ (b || d)
same_any a true false none is = is
same_any a false false none is = is
same_any a b true none is = absurd (cc)

-- a fan that leads to no module
pub marked_idle : (m : ℕ) (fans : List Fan) (i : ℕ) (item : Fan) (marks numbers : List ℕ) → i < length fans → item ≡ get_or fans i item → next_from (m + 1) item.to ≡ None → IsMarked m (take i fans) marks numbers → IsMarked m (take (i + 1) fans) marks numbers
marked_idle m fans i item marks numbers within is none marked = record {
  below = marked.below;
  marked = marked.marked;
  apart = marked.apart;
  are = λ n. same_any (has numbers n) (lead_to (take i fans) (m + 1) n) (is_at (next_from (m + 1) item.to) n) (ap (λ (o : Option ℕ). is_at o n) none) (marked.are n) ∙ sym (lead_more fans (m + 1) i item n within is);
}

listed : (a : Bool) (j n : ℕ) (numbers : List ℕ) → has numbers j ≡ true → a ≡ has numbers n → a ≡ (a || eqb j n)
listed true j n numbers has_it is = refl
listed false j n numbers has_it is = elim (cases_eq j n) [
  | inl same ↦ absurd (let both : false ≡ true = is ∙ ap (has numbers) (sym same) ∙ has_it in cc)
  | inr apart ↦ grind (arith, nat_tests)
]

flip : (i j : ℕ) → eqb i j ≡ eqb j i
flip i j = elim (cases_eq i j) [
  | inl same ↦ (let one : eqb i j ≡ true = grind (arith, nat_tests) in let two : eqb j i ≡ true = grind (arith, nat_tests) in one ∙ sym two)
  | inr apart ↦ (let one : eqb i j ≡ false = grind (arith, nat_tests) in let two : eqb j i ≡ false = grind (arith, nat_tests) in one ∙ sym two)
]

-- a fan that leads to module j
pub marked_more : (m : ℕ) (fans : List Fan) (i : ℕ) (item : Fan) (marks numbers new : List ℕ) (j : ℕ) → i < length fans → item ≡ get_or fans i item → next_from (m + 1) item.to ≡ Some j → j < length marks → IsMarked m (take i fans) marks numbers
    → new ≡ cond (eqb (get_or marks j 0) (m + 1)) numbers (numbers ++ j ∷ []) → IsMarked m (take (i + 1) fans) (set marks j (m + 1)) new
marked_more m fans i item marks numbers new j within is next inside marked added = by_mark (eqb (get_or marks j 0) (m + 1)) refl
  where
    leads : (n : ℕ) → (has numbers n || eqb j n) ≡ lead_to (take (i + 1) fans) (m + 1) n
    leads n = ap (λ (b : Bool). b || eqb j n) (marked.are n) ∙ ap (λ (o : Option ℕ). lead_to (take i fans) (m + 1) n || is_at o n) (sym next) ∙ sym (lead_more fans (m + 1) i item n within is)

    low : (n : ℕ) → n < length (set marks j (m + 1)) → get_or (set marks j (m + 1)) n 0 ≤ m + 1
    low n inner = elim (cases_eq n j) [
      | inl same ↦ (let at : get_or (set marks j (m + 1)) n 0 ≡ m + 1 = ap (λ (k : ℕ). get_or (set marks j (m + 1)) k 0) same ∙ get_or-set_same marks j (m + 1) 0 inside in omega (arith, at))
      | inr apart ↦ (
          let at = get_or-set_other marks j n (m + 1) 0 apart in
          let old = marked.below n (let size = length-set marks j (m + 1) in omega (arith, size, inner)) in
          omega (arith, at, old))
    ]

    test : (n : ℕ) → n < length (set marks j (m + 1)) → (has numbers n || eqb j n) ≡ eqb (get_or (set marks j (m + 1)) n 0) (m + 1)
    test n inner = elim (cases_eq n j) [
      | inl same ↦ (
          let at : get_or (set marks j (m + 1)) n 0 ≡ m + 1 = ap (λ (k : ℕ). get_or (set marks j (m + 1)) k 0) same ∙ get_or-set_same marks j (m + 1) 0 inside in
          let one : eqb j n ≡ true = grind (arith, nat_tests) in
          let two : eqb (get_or (set marks j (m + 1)) n 0) (m + 1) ≡ true = grind (arith, nat_tests) in
          ap (λ (b : Bool). has numbers n || b) one ∙ or_true (has numbers n) ∙ sym two)
      | inr apart ↦ (
          let at = get_or-set_other marks j n (m + 1) 0 apart in
          let one : eqb j n ≡ false = grind (arith, nat_tests) in
          let old = marked.marked n (let size = length-set marks j (m + 1) in omega (arith, size, inner)) in
          ap (λ (b : Bool). has numbers n || b) one ∙ or_nothing_left (has numbers n) ∙ old ∙ ap (λ (k : ℕ). eqb k (m + 1)) (sym at))
    ]

    by_mark : (b : Bool) → eqb (get_or marks j 0) (m + 1) ≡ b → IsMarked m (take (i + 1) fans) (set marks j (m + 1)) new
    by_mark true mark =
        let same : new ≡ numbers = added ∙ ap (λ (b : Bool). cond b numbers (numbers ++ j ∷ [])) mark in
        let here : has numbers j ≡ true = marked.marked j inside ∙ mark in
        let stays = λ (n : ℕ). ap (λ (ns : List ℕ). has ns n) same ∙ listed (has numbers n) j n numbers here refl in
        record {
          below = low;
          marked = λ n inner. stays n ∙ test n inner;
          apart = subst (λ (ns : List ℕ). IsDistinct eqb ns) (sym same) marked.apart;
          are = λ n. stays n ∙ leads n;
        }
    by_mark false mark =
        let longer : new ≡ numbers ++ j ∷ [] = added ∙ ap (λ (b : Bool). cond b numbers (numbers ++ j ∷ [])) mark in
        let none : has numbers j ≡ false = marked.marked j inside ∙ mark in
        let grows = λ (n : ℕ). ap (λ (ns : List ℕ). has ns n) longer ∙ has_push numbers j n ∙ ap (λ (b : Bool). has numbers n || b) (flip n j) in
        record {
          below = low;
          marked = λ n inner. grows n ∙ test n inner;
          apart = subst (λ (ns : List ℕ). IsDistinct eqb ns) (sym longer) (IsDistinct-push nat_eq_equiv numbers j marked.apart none);
          are = λ n. grows n ∙ leads n;
        }

pub fan_at : (n : ℕ) (fans : List Fan) → All (IsFan n) fans → (i : ℕ) (item : Fan) → i < length fans → item ≡ get_or fans i item → IsFan n item
fan_at n fans all i item within is = subst (λ (f : Fan). IsFan n f) (sym is) (All-get_or (IsFan n) fans i item within all)
