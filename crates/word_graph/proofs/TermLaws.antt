-- The comparison of terms, and sets of terms.
use Rattle.std.proofs.Common.{◌≡◌, ℕ, suc, Bool, true, false, ◌&&◌, ◌||◌, cond, eqb, List, [], ◌∷◌, Some, slice_get, ◌⊎◌, inl, inr, refl, sym, ap, arith, eqb-true, eq-eqb}
use Rattle.std.specs.Bool.{Decides}
use Rattle.std.specs.List.{list_any, position, Contains}
use Rattle.hy_bits.specs.contracts.op.Op as op
use Rattle.hy_bits.specs.contracts.width.Width as width
use Rattle.word_graph.specs.declared.entry.Term.{Term}
use Rattle.word_graph.specs.contracts.entry.TermPartialEq.TheImpl as impl
use denote.Enum.Bare.{sameb, same_true, true_same}
use lib.Pointwise.{pointwise, bytes_decides}
use Rattle.word_graph.proofs.EntryLaws.{position-found, list_any-missed}

all_true : (a b c d : Bool) → (a && (b && (c && d))) ≡ true → (a ≡ true) × (b ≡ true) × (c ≡ true) × (d ≡ true)
all_true true true true true h = (refl, refl, refl, refl)
all_true true true true false h = absurd (cc)
all_true true true false d h = absurd (cc)
all_true true false c d h = absurd (cc)
all_true false b c d h = absurd (cc)

true_all : (a b c d : Bool) → a ≡ true → b ≡ true → c ≡ true → d ≡ true → (a && (b && (c && d))) ≡ true
true_all true true true true p q r s = refl
true_all true true true false p q r s = cc
true_all true true false d p q r s = cc
true_all true false c d p q r s = cc
true_all false b c d p q r s = cc

same_parts : (t u : Term) → t.op ≡ u.op → t.width ≡ u.width → t.args ≡ u.args → t.number ≡ u.number → t ≡ u
same_parts t u a b c d = λ i. record { op = a i; width = b i; args = c i; number = d i }

-- the derived comparison decides equality
decides : (t u : Term) → Decides (impl.eq-value.it t u) (t ≡ u)
decides t u = (
  λ h.
      let p = all_true (sameb op.the_type t.op u.op) (sameb width.the_type t.width u.width) (pointwise eqb t.args u.args) (eqb t.number u.number) h in
      same_parts t u (same_true op.the_type tt t.op u.op p.0) (same_true width.the_type tt t.width u.width p.1) ((bytes_decides t.args u.args).0 p.2) (eqb-true t.number u.number p.3),
  λ e.
      true_all (sameb op.the_type t.op u.op) (sameb width.the_type t.width u.width) (pointwise eqb t.args u.args) (eqb t.number u.number)
      (true_same op.the_type t.op u.op (ap (λ (v : Term). v.op) e)) (true_same width.the_type t.width u.width (ap (λ (v : Term). v.width) e))
      ((bytes_decides t.args u.args).1 (ap (λ (v : Term). v.args) e)) (eq-eqb t.number u.number (ap (λ (v : Term). v.number) e)),
)

-- what is found at a place stands there
pub found : (t : Term) (ts : List Term) (k : ℕ) → position (impl.eq-value.it t) ts ≡ Some k → slice_get ts k ≡ Some t
found t = position-found (impl.eq-value.it t) t (decides t)

-- what is not found stands nowhere
pub missed : (t : Term) (ts : List Term) → list_any (impl.eq-value.it t) ts ≡ false → ¬ Contains ts t
missed t = list_any-missed (impl.eq-value.it t) t (decides t)

test_cases : (b : Bool) → (b ≡ true) ⊎ (b ≡ false)
test_cases true = inl refl
test_cases false = inr refl

-- what stands nowhere is not found
pub absent : (t : Term) (ts : List Term) → ¬ Contains ts t → list_any (impl.eq-value.it t) ts ≡ false
absent t [] nowhere = refl
absent t (u ∷ ts) nowhere = elim (test_cases (impl.eq-value.it t u)) [
  | inl e ↦ absurd (nowhere (0, omega arith, sym ((decides t u).0 e)))
  | inr e ↦ or_false (impl.eq-value.it t u) (list_any (impl.eq-value.it t) ts) e (absent t ts (λ c. nowhere (suc c.0, omega (arith, c.1), c.2)))
]
  where
    or_false : (a b : Bool) → a ≡ false → b ≡ false → (a || b) ≡ false
    or_false true b p q = absurd (cc)
    or_false false b p q = q

-- a term that is not found goes to the end
pub kept : (xs ys : List Term) (b : Bool) → b ≡ false → cond b xs ys ≡ ys
kept xs ys true e = absurd (cc)
kept xs ys false e = refl
