-- The rules that typed statements keep in each scope that a program may end with.
use Rattle.std.specs.Prelude.{◌≡◌, ◌≤◌, ◌-◌, ◌&&◌, ℕ, true, false, nat_le, Option, None, Some, slice_get}
use Rattle.std.specs.List.{list_any}
use Rattle.c_meaning.specs.declared.types.Object.{Object}
use Rattle.c_meaning.specs.declared.statements.TypedStep.{TypedStep}
use Rattle.c_meaning.specs.declared.statements.TypedStatement.{TypedStatement}
use Rattle.c_meaning.specs.declared.statements.TypedItem.{TypedItem}
use Rattle.c_meaning.specs.declared.statements.TypedIteration.{TypedIteration}
use Rattle.c_meaning.specs.declared.statements.TypedSelection.{TypedSelection}
use Rattle.c_meaning.specs.declared.statements.TypedSection.{TypedSection}
use Rattle.c_meaning.specs.declared.statements.TypedItem.TheFolds.{every-TypedItem, every-TypedIteration, every-TypedSelection, every-TypedStatement, every-TypedSection}
use Rattle.c_meaning.specs.StatementRules.{Within, ItemFits, IterationFits, SelectionFits, StatementFits}
use Rattle.c_typing.specs.declared.environment.Environment.{Environment}
use Rattle.c_typing.specs.declared.environment.Entity.TheVariants as entity
use Rattle.c_heads.specs.declared.context.Body.{Body}
use Rattle.c_heads.specs.Loops.{step_object}
use Rattle.typing_laws.specs.Scopes.{ScopeGrows}
use Rattle.typing_laws.specs.Passing.{scope_of}

abbrev pub NoRule : {A : Type 0} → A → Type 0
NoRule x = Unit {0}

abbrev pub IsTypedItem : Within → TypedItem → Type 0
IsTypedItem within = every-TypedItem (ItemFits within) (IterationFits within) (SelectionFits within) (StatementFits within) NoRule NoRule

abbrev pub IsTypedIteration : Within → TypedIteration → Type 0
IsTypedIteration within = every-TypedIteration (ItemFits within) (IterationFits within) (SelectionFits within) (StatementFits within) NoRule NoRule

abbrev pub IsTypedSelection : Within → TypedSelection → Type 0
IsTypedSelection within = every-TypedSelection (ItemFits within) (IterationFits within) (SelectionFits within) (StatementFits within) NoRule NoRule

abbrev pub IsTypedStatement : Within → TypedStatement → Type 0
IsTypedStatement within = every-TypedStatement (ItemFits within) (IterationFits within) (SelectionFits within) (StatementFits within) NoRule NoRule

abbrev pub IsTypedSection : Within → TypedSection → Type 0
IsTypedSection within = every-TypedSection (ItemFits within) (IterationFits within) (SelectionFits within) (StatementFits within) NoRule NoRule

-- ---- in each scope that a program may end with

-- what the function declares and takes no address by is an automatic object whose address isn't taken
abbrev pub Unaddressed : Body → Environment → Within → Type 0
Unaddressed body env within =
    (n k : ℕ) → body.base ≤ n → slice_get env.entities n ≡ Some (entity.Object k) → slice_get body.addressed (n - body.base) ≡ Some false
    → (list_any (λ j. nat_le j k && nat_le k j) within.taken ≡ false) × ((object : Object) → slice_get within.scope.objects k ≡ Some object → object.start ≡ None)

-- a scope with no less declared, in a function with the result that takes no address but by the names that are marked
abbrev pub Final : Body → Environment → Within → Type 0
Final body env within = ScopeGrows (scope_of env) within.scope × (within.result ≡ body.result) × Unaddressed body env within

-- it keeps the rule in each of them
abbrev pub Finally : {A : Type 0} → (Within → A → Type 0) → Body → Environment → A → Type 0
Finally Rule body env a = (within : Within) → Final body env within → Rule within a

-- ---- what the step of a loop changes

abbrev pub object_stepped : Option TypedStep → Option ℕ
object_stepped None = None
object_stepped (Some step) = step_object step.effect

-- the number is that of the declaration of the object that the step changes
abbrev pub StepsAs : Option ℕ → Environment → Option TypedStep → Type 0
StepsAs number env step = (n k : ℕ) → number ≡ Some n → object_stepped step ≡ Some k → slice_get env.entities n ≡ Some (entity.Object k)
