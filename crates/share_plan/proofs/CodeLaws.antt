-- Codes one after another; depths of gates.
use Rattle.std.proofs.Common.{◌≡◌, ℕ, suc, ◌+◌, List, [], ◌∷◌, ◌++◌, drop, slice_index, refl, sym, ap, ◌∙◌, arith, add-one, append_assoc}
use Rattle.share_core.specs.Machine.{listed}
use Rattle.share_plan.specs.Modules.{codes_from}

-- one code more
pub codes-more : (codes : List ℕ) (place n : ℕ) (out now next : List ℕ) → now ≡ out ++ codes_from codes place n → next ≡ now ++ slice_index codes (place + n) ∷ [] → next ≡ out ++ codes_from codes place (n + 1)
unfolding listed
codes-more codes place n out now next so then =
    then ∙ ap (λ (xs : List ℕ). xs ++ slice_index codes (place + n) ∷ []) so ∙ append_assoc out (codes_from codes place n) (slice_index codes (place + n) ∷ []) ∙ rw add-one refl

-- the constant's wire apart
pub drop_wire : (levels wires : List ℕ) (n : ℕ) → 0 ∷ levels ≡ wires → drop (1 + n) wires ≡ drop n levels
drop_wire levels wires n is = let e : 1 + n ≡ suc n = omega arith in ap (drop (1 + n)) (sym is) ∙ ap (λ (k : ℕ). drop k (0 ∷ levels)) e
