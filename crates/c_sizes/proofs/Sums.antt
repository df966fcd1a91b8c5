-- Sums of sizes over lists, one more part at a time.
use Rattle.std.proofs.Common.{◌≡◌, ℕ, ◌+◌, ◌<◌, ◌&&◌, Bool, true, false, List, [], ◌∷◌, ◌++◌, get_or, map, take, length, refl, sym, ap, ◌∙◌, arith}
use Rattle.std.specs.List.{list_all}
use Rattle.std.proofs.lemmas.List.{take_more, map_push, length-map, length-take-le}
use Rattle.c_meaning.specs.declared.types.ValueKind.{ValueKind}
use Rattle.c_meaning.specs.Sizes.{Size, nothing, plus, total, Measure, ExprSize, Counters, moved_size, arguments_size}
use Rattle.c_sizes.specs.declared.totals.Totals.{Totals}
use Rattle.c_sizes.specs.Totals.{totals_of, joined}
use Rattle.c_sizes.specs.Views.{moved_to}
use Rattle.c_sizes.proofs.Saturation.{joined_totals, nothing_first, nothing_last, sum_first, plus_assoc, plus_last, plus_none}

-- one more part of a list is that of the list so far
taken : {A : Type 0} (xs : List A) (i : ℕ) (x : A) → i < length xs → x ≡ get_or xs i x → take (i + 1) xs ≡ take i xs ++ x ∷ []
taken xs i x h is = take_more xs i x h ∙ ap (λ y. take i xs ++ y ∷ []) (sym is)

-- a sum with one more at the end
pub total_push : (sizes : List Size) (a : Size) → totals_of (total (sizes ++ a ∷ [])) ≡ joined (totals_of (total sizes)) (totals_of a)
total_push [] a = nothing_last a ∙ sym (nothing_first a) ∙ sym (joined_totals nothing a)
total_push (b ∷ bs) a =
    sym (joined_totals b (total (bs ++ a ∷ [])))
    ∙ ap (joined (totals_of b)) (total_push bs a ∙ joined_totals (total bs) a)
    ∙ joined_totals b (plus (total bs) a)
    ∙ sym (sum_first b (total bs) a)
    ∙ sym (joined_totals (plus b (total bs)) a)

module _ {A : Type 0} (size : A → Size) (xs : List A) where
  pub sum_more : (i : ℕ) (x : A) (so_far one : Totals) → i < length xs → x ≡ get_or xs i x → so_far ≡ totals_of (total (map size (take i xs))) → one ≡ totals_of (size x) → joined so_far one ≡ totals_of (total (map size (take (i + 1) xs)))
  sum_more i x so_far one h is e f =
      ap (λ (t : Totals). joined t one) e ∙ ap (joined (totals_of (total (map size (take i xs))))) f
      ∙ sym (total_push (map size (take i xs)) (size x))
      ∙ sym (ap (λ (sizes : List Size). totals_of (total sizes)) (ap (map size) (taken xs i x h is) ∙ map_push size (take i xs) x))

module _ {A B : Type 0} (part : A → B) (size : B → Size) (xs : List A) where
  pub parts_more : (i : ℕ) (x : A) (so_far one : Totals) → i < length xs → x ≡ get_or xs i x → so_far ≡ totals_of (total (map size (map part (take i xs)))) → one ≡ totals_of (size (part x)) → joined so_far one ≡ totals_of (total (map size (map part (take (i + 1) xs))))
  parts_more i x so_far one h is e f =
      ap (λ (t : Totals). joined t one) e ∙ ap (joined (totals_of (total (map size (map part (take i xs)))))) f
      ∙ sym (total_push (map size (map part (take i xs))) (size (part x)))
      ∙ sym (ap (λ (sizes : List Size). totals_of (total sizes))
      (ap (λ (some : List A). map size (map part some)) (taken xs i x h is) ∙ ap (map size) (map_push part (take i xs) x) ∙ map_push size (map part (take i xs)) (part x)))

-- ---- whether all are numbers

and_last : (a : Bool) → (a && true) ≡ (true && a)
and_last true = refl
and_last false = refl

and_first : (a b c : Bool) → (a && (b && c)) ≡ ((a && b) && c)
and_first true b c = refl
and_first false b c = refl

all_push : {B : Type 0} (test : B → Bool) (ys : List B) (y : B) → list_all test (ys ++ y ∷ []) ≡ (list_all test ys && test y)
all_push test [] y = and_last (test y)
all_push test (x ∷ xs) y = ap (λ (b : Bool). test x && b) (all_push test xs y) ∙ and_first (test x) (list_all test xs) (test y)

module _ {A B : Type 0} (part : A → B) (test : B → Bool) (xs : List A) where
  pub all_more : (i : ℕ) (x : A) (so_far one : Bool) → i < length xs → x ≡ get_or xs i x → so_far ≡ list_all test (map part (take i xs)) → one ≡ test (part x) → (so_far && one) ≡ list_all test (map part (take (i + 1) xs))
  all_more i x so_far one h is e f =
      ap (λ (b : Bool). b && one) e ∙ ap (λ (b : Bool). list_all test (map part (take i xs)) && b) f
      ∙ sym (all_push test (map part (take i xs)) (part x))
      ∙ sym (ap (list_all test) (ap (map part) (taken xs i x h is) ∙ map_push part (take i xs) x))

-- ---- arguments

-- one more argument, for the parameter at its place
arguments_push : (m : Measure) (kinds : List ValueKind) (es : List ExprSize) (e : ExprSize) (counters : Counters) → arguments_size m kinds (es ++ e ∷ []) counters ≡ plus (arguments_size m kinds es counters) (plus (e.size counters) (moved_to m kinds (length es)))
arguments_push m [] [] e counters = plus_none (e.size counters)
arguments_push m (k ∷ kinds) [] e counters = plus_last (e.size counters) (moved_size m k)
arguments_push m [] (a ∷ es) e counters =
    ap (plus (a.size counters)) (arguments_push m [] es e counters)
    ∙ sym (plus_assoc (a.size counters) (arguments_size m [] es counters) (plus (e.size counters) (moved_to m [] (length es))))
arguments_push m (k ∷ kinds) (a ∷ es) e counters =
    ap (plus (plus (a.size counters) (moved_size m k))) (arguments_push m kinds es e counters)
    ∙ sym (plus_assoc (plus (a.size counters) (moved_size m k)) (arguments_size m kinds es counters) (plus (e.size counters) (moved_to m kinds (length es))))

module _ {A : Type 0} (part : A → ExprSize) (xs : List A) where
  pub arguments_more : (m : Measure) (kinds : List ValueKind) (counters : Counters) (i : ℕ) (x : A) (so_far value cost : Totals) → i < length xs → x ≡ get_or xs i x → so_far ≡ totals_of (arguments_size m kinds (map part (take i xs)) counters) → value ≡ totals_of ((part x).size counters) → cost ≡ totals_of (moved_to m kinds i) → joined so_far (joined value cost) ≡ totals_of (arguments_size m kinds (map part (take (i + 1) xs)) counters)
  arguments_more m kinds counters i x so_far value cost h is e f g =
      let so : Size = arguments_size m kinds (map part (take i xs)) counters in
      let at : length (map part (take i xs)) ≡ i = length-map (take i xs) part ∙ length-take-le i xs (omega arith) in
      ap (λ (t : Totals). joined t (joined value cost)) e
      ∙ ap (λ (t : Totals). joined (totals_of so) (joined t cost)) f
      ∙ ap (λ (t : Totals). joined (totals_of so) (joined (totals_of ((part x).size counters)) t)) (g ∙ ap (λ (j : ℕ). totals_of (moved_to m kinds j)) (sym at))
      ∙ ap (joined (totals_of so)) (joined_totals ((part x).size counters) (moved_to m kinds (length (map part (take i xs)))))
      ∙ joined_totals so (plus ((part x).size counters) (moved_to m kinds (length (map part (take i xs)))))
      ∙ ap totals_of (sym (arguments_push m kinds (map part (take i xs)) (part x) counters))
      ∙ sym (ap (λ (es : List ExprSize). totals_of (arguments_size m kinds es counters)) (ap (map part) (taken xs i x h is) ∙ map_push part (take i xs) x))
