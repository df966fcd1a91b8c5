-- Operands and steps, one more at a time.
use Rattle.std.proofs.Common.{◌≡◌, ℕ, ◌+◌, ◌<◌, Bool, true, false, if◌then◌else◌, Option, None, Some, List, ◌∷◌, get_or, map, drop, length, refl, sym, ap, ◌∙◌}
use Rattle.std.proofs.lemmas.List.{drop_more}
use Rattle.hy_bits.specs.Bits.{bit}
use Rattle.c_meaning.specs.Constants.{Constant, Variable, Faulty, Word, StepConstant, with_word, with_form, along_constants, decides, logical_constant}
use Rattle.c_constants.specs.Views.{decided, held_after, settled}

-- the element at the index, and what is left after it
pub left_at : {A : Type 0} (xs : List A) (i : ℕ) (x : A) → i < length xs → x ≡ get_or xs i x → drop i xs ≡ x ∷ drop (i + 1) xs
left_at xs i x h is = drop_more xs i x h ∙ ap (λ y. y ∷ drop (i + 1) xs) (sym is)

module _ {A : Type 0} (step : A → StepConstant) (xs : List A) where
  pub along_more : (i : ℕ) (x : A) (left next : Constant) → i < length xs → x ≡ get_or xs i x → next ≡ step x left → along_constants (map step (drop (i + 1) xs)) next ≡ along_constants (map step (drop i xs)) left
  along_more i x left next h is e =
      ap (along_constants (map step (drop (i + 1) xs))) e
      ∙ sym (ap (λ (some : List A). along_constants (map step some) left) (left_at xs i x h is))

-- ---- "&&" and "||"

first_next : (is_or : Bool) (v rest : Constant) → with_word (with_form v rest) (λ w. if decides is_or w then Word (bit is_or) else rest) ≡ settled (decided is_or v) rest
first_next is_or Variable rest = refl
first_next is_or Faulty Variable = refl
first_next is_or Faulty Faulty = refl
first_next is_or Faulty (Word r) = refl
first_next is_or (Word w) Variable = elim (decides is_or w) as (λ b. Variable ≡ settled (if b then Some (Word (bit is_or)) else None) Variable) [ true ↦ refl | false ↦ refl ]
first_next is_or (Word w) Faulty = elim (decides is_or w) as (λ b. (if b then Word (bit is_or) else Faulty) ≡ settled (if b then Some (Word (bit is_or)) else None) Faulty) [ true ↦ refl | false ↦ refl ]
first_next is_or (Word w) (Word r) = elim (decides is_or w) as (λ b. (if b then Word (bit is_or) else Word r) ≡ settled (if b then Some (Word (bit is_or)) else None) (Word r)) [ true ↦ refl | false ↦ refl ]

abbrev pub formed : Constant → Bool
formed Variable = false
formed Faulty = true
formed (Word w) = true

held_form : (c x y : Constant) → formed x ≡ formed y → with_form c x ≡ with_form c y
held_form Variable x y e = refl
held_form Faulty Variable Variable e = refl
held_form Faulty Variable Faulty e = cc
held_form Faulty Variable (Word y) e = cc
held_form Faulty Faulty Variable e = cc
held_form Faulty Faulty Faulty e = refl
held_form Faulty Faulty (Word y) e = refl
held_form Faulty (Word x) Variable e = cc
held_form Faulty (Word x) Faulty e = refl
held_form Faulty (Word x) (Word y) e = refl
held_form (Word c) Variable Variable e = refl
held_form (Word c) Variable Faulty e = cc
held_form (Word c) Variable (Word y) e = cc
held_form (Word c) Faulty Variable e = cc
held_form (Word c) Faulty Faulty e = refl
held_form (Word c) Faulty (Word y) e = refl
held_form (Word c) (Word x) Variable e = cc
held_form (Word c) (Word x) Faulty e = refl
held_form (Word c) (Word x) (Word y) e = refl

form_form : (c v rest : Constant) → with_form (with_form c v) rest ≡ with_form c (with_form v rest)
form_form Variable v rest = refl
form_form Faulty Variable rest = refl
form_form Faulty Faulty Variable = refl
form_form Faulty Faulty Faulty = refl
form_form Faulty Faulty (Word r) = refl
form_form Faulty (Word w) Variable = refl
form_form Faulty (Word w) Faulty = refl
form_form Faulty (Word w) (Word r) = refl
form_form (Word c) Variable rest = refl
form_form (Word c) Faulty Variable = refl
form_form (Word c) Faulty Faulty = refl
form_form (Word c) Faulty (Word r) = refl
form_form (Word c) (Word w) Variable = refl
form_form (Word c) (Word w) Faulty = refl
form_form (Word c) (Word w) (Word r) = refl

same_form : (is_or : Bool) (v rest : Constant) → formed (settled (decided is_or v) rest) ≡ formed (with_form v rest)
same_form is_or Variable rest = refl
same_form is_or Faulty rest = refl
same_form is_or (Word w) Variable = elim (decides is_or w) as (λ b. formed (settled (if b then Some (Word (bit is_or)) else None) Variable) ≡ false) [ true ↦ refl | false ↦ refl ]
same_form is_or (Word w) Faulty = elim (decides is_or w) as (λ b. formed (settled (if b then Some (Word (bit is_or)) else None) Faulty) ≡ true) [ true ↦ refl | false ↦ refl ]
same_form is_or (Word w) (Word r) = elim (decides is_or w) as (λ b. formed (settled (if b then Some (Word (bit is_or)) else None) (Word r)) ≡ true) [ true ↦ refl | false ↦ refl ]

-- what is decided after one more operand, and what is left after it
held_next : (is_or : Bool) (held : Option Constant) (v rest : Constant) → settled (held_after is_or held v) rest ≡ settled held (with_word (with_form v rest) (λ w. if decides is_or w then Word (bit is_or) else rest))
held_next is_or None v rest = sym (first_next is_or v rest)
held_next is_or (Some c) v rest = form_form c v rest ∙ held_form c (with_form v rest) (settled (decided is_or v) rest) (sym (same_form is_or v rest)) ∙ ap (with_form c) (sym (first_next is_or v rest))

module _ {A : Type 0} (operand : A → Constant) (xs : List A) where
  pub logical_more : (is_or : Bool) (i : ℕ) (x : A) (held after : Option Constant) (value next : Constant) → i < length xs → x ≡ get_or xs i x → after ≡ held_after is_or held value → next ≡ operand x → settled after (logical_constant is_or next (map operand (drop (i + 1) xs))) ≡ settled held (logical_constant is_or value (map operand (drop i xs)))
  logical_more is_or i x held after value next h is e f =
      ap (λ (o : Option Constant). settled o (logical_constant is_or next (map operand (drop (i + 1) xs)))) e
      ∙ ap (λ (c : Constant). settled (held_after is_or held value) (logical_constant is_or c (map operand (drop (i + 1) xs)))) f
      ∙ held_next is_or held value (logical_constant is_or (operand x) (map operand (drop (i + 1) xs)))
      ∙ sym (ap (λ (some : List A). settled held (logical_constant is_or value (map operand some))) (left_at xs i x h is))
