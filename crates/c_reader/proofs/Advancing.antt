-- Lists of tokens from a place on, and one place further on.
use Rattle.std.proofs.Common.{◌≡◌, ◌<◌, ◌≤◌, ◌⊎◌, inl, inr, ℕ, zero, suc, ◌+◌, ◌-◌, true, false, List, [], ◌∷◌, ◌++◌, length, get_or, drop, refl, sym, ap, ◌∙◌, arith}
use Rattle.std.proofs.Math.Seq.{drop-cons, drop-nil, get_or-append_right}
use Rattle.std.proofs.Math.ListN.{drop_of_length-le}
use Rattle.c_tree.specs.TokenLists.{is_closed}
use Rattle.c_tree.specs.declared.token.Token.{Token}
use Rattle.c_reader.specs.Outcome.{sees, is_end}
use Rattle.c_reader.proofs.Truths.{and_right}

either : (a b : ℕ) → (a < b) ⊎ (b ≤ a)
either a b = grind arith

-- a list that ends right isn't empty
pub within : (l : List Token) (at : ℕ) → is_closed (drop at l) ≡ true → at < length l
within l at closed =
    elim (either at (length l)) [
      | inl below ↦ below
      | inr past ↦ let none = ap is_closed (drop_of_length-le l {i = at} past) in absurd (cc)
    ]

pub split : (l : List Token) (at : ℕ) (d : Token) → is_closed (drop at l) ≡ true → drop at l ≡ get_or l at d ∷ drop 1 (drop at l)
split l at d closed =
    let e = drop-cons l at d (within l at closed) in
    e ∙ ap (λ r. get_or l at d ∷ r) (sym (ap (λ r. drop 1 r) e))

-- the token at a place in the second of two lists
pub split_after : (l m : List Token) (at : ℕ) (d : Token) → is_closed (drop at (l ++ m)) ≡ true → length l ≤ at → drop at (l ++ m) ≡ get_or m (at - length l) d ∷ drop 1 (drop at (l ++ m))
split_after l m at d closed past = split (l ++ m) at d closed ∙ ap (λ t. t ∷ drop 1 (drop at (l ++ m))) (get_or-append_right l m at d past)

pub drop_one : (l : List Token) (at : ℕ) → drop (at + 1) l ≡ drop 1 (drop at l)
drop_one [] at = drop-nil (at + 1) ∙ sym (ap (λ r. drop 1 r) (drop-nil at))
drop_one (t ∷ l) zero = refl
drop_one (t ∷ l) (suc at) = let e : suc at + 1 ≡ suc (at + 1) = omega arith in ap (λ n. drop n (t ∷ l)) e ∙ drop_one l at

closed_following : (t : Token) (l : List Token) → is_end t ≡ false → is_closed (t ∷ l) ≡ true → is_closed l ≡ true
closed_following t [] inner closed = absurd (cc)
closed_following t (n ∷ l) inner closed = and_right _ _ closed

closed_rest : (l : List Token) → sees is_end l ≡ false → is_closed l ≡ true → is_closed (drop 1 l) ≡ true
unfolding sees
closed_rest [] inner closed = absurd (cc)
closed_rest (t ∷ l) inner closed = closed_following t l inner closed

pub goes_on : (l m : List Token) (at : ℕ) → drop at l ≡ m → sees is_end m ≡ false → is_closed (drop at l) ≡ true → is_closed (drop (at + 1) l) ≡ true
goes_on l m at e inner closed = rw (drop_one l at, e) (closed_rest m inner (ap is_closed (sym e) ∙ closed))
