-- What keeps a rule in each scope that a program may end with, where more is declared.
use Rattle.std.proofs.Common.{◌≡◌, ℕ, zero, suc, Option, Some, List, [], ◌∷◌, ◌++◌, slice_get, sym, subst}
use Rattle.c_meaning.specs.declared.statements.TypedStep.{TypedStep}
use Rattle.c_meaning.specs.StatementRules.{Within}
use Rattle.c_typing.specs.declared.environment.Entity.{Entity}
use Rattle.c_typing.specs.declared.environment.Entity.TheVariants as entity
use Rattle.c_typing.specs.declared.environment.Environment.{Environment}
use Rattle.c_heads.specs.declared.context.Body.{Body}
use Rattle.typing_laws.specs.Environments.{Extends}
use Rattle.typing_laws.proofs.Environments.{grows-trans, scope-grows}
use Rattle.typing_laws.proofs.Parts.{Each}
use Rattle.statement_laws.specs.Final.{Final, Finally, StepsAs}

kept-at : {A : Type 0} (xs ys : List A) (k : ℕ) (x : A) → slice_get xs k ≡ Some x → slice_get (xs ++ ys) k ≡ Some x
kept-at [] ys k x h = absurd (cc)
kept-at (z ∷ xs) ys zero x h = h
kept-at (z ∷ xs) ys (suc k) x h = kept-at xs ys k x h

entity-kept : (old new : Environment) → Extends old new → (n k : ℕ) → slice_get old.entities n ≡ Some (entity.Object k) → slice_get new.entities n ≡ Some (entity.Object k)
entity-kept old new g n k h = subst (λ (es : List Entity). slice_get es n ≡ Some (entity.Object k)) (sym g.entities.1) (kept-at old.entities g.entities.0 n (entity.Object k) h)

pub steps-last : (number : Option ℕ) (old new : Environment) → Extends old new → (step : Option TypedStep) → StepsAs number old step → StepsAs number new step
steps-last number old new g step h = λ n k e is. entity-kept old new g n k (h n k e is)

pub final-before : (body : Body) (old new : Environment) → Extends old new → (within : Within) → Final body new within → Final body old within
final-before body old new g within f = (
  record {
    structs = grows-trans old.structs new.structs within.scope.structs g.structs f.0.structs;
    objects = grows-trans old.objects new.objects within.scope.objects g.objects f.0.objects;
    functions = grows-trans old.functions new.functions within.scope.functions (scope-grows old new g).functions f.0.functions;
  },
  f.1,
  (λ n k le h unmarked. f.2 n k le (entity-kept old new g n k h) unmarked),
)

pub finally-lasts : {A : Type 0} (Rule : Within → A → Type 0) (body : Body) (old new : Environment) → Extends old new → (a : A) → Finally Rule body old a → Finally Rule body new a
finally-lasts Rule body old new g a h = λ within f. h within (final-before body old new g within f)

pub each-more : {A : Type 0} (P : A → Type 0) (xs : List A) (y : A) → Each P xs → P y → Each P (xs ++ y ∷ [])
each-more P [] y h p = (p, tt)
each-more P (x ∷ xs) y h p = (h.0, each-more P xs y h.1 p)
