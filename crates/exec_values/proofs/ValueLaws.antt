-- Values that words stand for.
use Rattle.std.proofs.Common.{◌≡◌, ℕ, zero, suc, ◌+◌, ◌-◌, ◌==◌, Bool, true, false, not, List, [], ◌∷◌, refl, sym, ap, ◌∙◌, arith}
use Rattle.std.specs.Prelude.{Some, None}
use Rattle.std.proofs.lemmas.Grind.{common_steps}
use Rattle.hy_bits.specs.Bits.{bit}
use Rattle.c_meaning.specs.declared.values.Cell.{Cell}
use Rattle.c_meaning.specs.declared.values.Cell.TheVariants as cell
use Rattle.c_meaning.specs.State.{Address, cell_of, points_alike}
use Rattle.c_meaning.specs.Expressions.{Value, word_in, address_in, holds, of_truth}
use Rattle.c_place.specs.Aims.{Aim, aimed_at, aims_there}
use Rattle.exec_state.specs.Seen.{IsSeen, seen, seen_address}
use Rattle.exec_state.proofs.SeenLaws.{holds_seen, word_seen, address_seen, alike_seen}

pub word_shown : (w : ℕ) (u : Value) → IsSeen (cell.Int w ∷ []) u → word_in u ≡ w
word_shown w u is = sym (word_seen u) ∙ ap word_in (sym is)

pub holds_shown : (v : List Cell) (u : Value) → IsSeen v u → holds u ≡ holds v
holds_shown v u is = sym (holds_seen u) ∙ ap holds (sym is)

seen_in : (a : Address) → address_in (seen (cell_of a) ∷ []) ≡ seen_address a
seen_in None = refl
seen_in (Some p) = refl

-- the address in a value that shows one, of which no life is told
pub address_shown : (a : Address) (u : Value) → IsSeen (seen (cell_of a) ∷ []) u → seen_address (address_in u) ≡ seen_address a
address_shown a u is = sym (address_seen u) ∙ ap address_in (sym is) ∙ seen_in a

pub of_address_seen : (a p : Address) → seen_address p ≡ seen_address a → seen (cell_of a) ∷ [] ≡ seen (cell_of p) ∷ []
of_address_seen None None e = refl
of_address_seen None (Some p) e = absurd (cc)
of_address_seen (Some a) None e = absurd (cc)
of_address_seen (Some a) (Some p) e = ap (λ (x : Address). seen (cell_of x) ∷ []) (sym e)

-- a pointer holds where it isn't null
none_aimed : (xs : List Aim) → aims_there xs ≡ 0 → aimed_at xs ≡ None
none_aimed [] h = refl
none_aimed (a ∷ more) h =
    let off : (a.guard == 1) ≡ false = grind (arith, common_steps) in
    rw off (none_aimed more (omega arith))

some_more : (a : Aim) (more : List Aim) → aims_there (a ∷ more) ≡ 1 → (aims_there more ≡ 1 → holds (seen (cell_of (aimed_at more)) ∷ []) ≡ true) → (b : Bool) → (a.guard == 1) ≡ b → holds (seen (cell_of (aimed_at (a ∷ more))) ∷ []) ≡ true
some_more a more h rest true e = rw e refl
some_more a more h rest false e = let none : a.guard ≡ 0 = grind (arith, common_steps) in rw e (rest (omega arith))

some_aimed : (xs : List Aim) → aims_there xs ≡ 1 → holds (seen (cell_of (aimed_at xs)) ∷ []) ≡ true
some_aimed [] h = absurd (omega arith)
some_aimed (a ∷ more) h = some_more a more h (some_aimed more) (a.guard == 1) refl

pub pointer_holds : (null : ℕ) (xs : List Aim) → null + aims_there xs ≡ 1 → 1 - null ≡ bit (holds (seen (cell_of (aimed_at xs)) ∷ []))
pointer_holds zero xs h = let one : aims_there xs ≡ 1 = omega arith in rw (some_aimed xs one) refl
pointer_holds (suc zero) xs h = let none : aims_there xs ≡ 0 = omega arith in rw (none_aimed xs none) refl
pointer_holds (suc (suc n)) xs h = absurd (omega arith)

pub not_shown : (b : Bool) → cell.Int (1 - bit b) ∷ [] ≡ of_truth (not b)
not_shown true = refl
not_shown false = refl

pub alike_shown : (a b : Address) (u x : Value) → IsSeen (seen (cell_of a) ∷ []) u → IsSeen (seen (cell_of b) ∷ []) x → points_alike (address_in u) (address_in x) ≡ points_alike a b
alike_shown a b u x left right =
    sym (alike_seen (address_in u) (address_in x))
    ∙ ap (λ (p : Address). points_alike p (seen_address (address_in x))) (address_shown a u left)
    ∙ ap (λ (p : Address). points_alike (seen_address a) p) (address_shown b x right)
    ∙ alike_seen a b
