-- What is declared between walks, and the names that a function marks.
use Rattle.std.specs.Prelude.{◌≡◌, ◌<◌, ◌≤◌, ◌-◌, ◌&&◌, ℕ, false, nat_le, Option, None, Some, List, length, slice_get}
use Rattle.std.specs.List.{list_any}
use Rattle.c_tree.specs.declared.programs.Function.{Function}
use Rattle.c_meaning.specs.declared.types.Object.{Object}
use Rattle.c_meaning.specs.Uses.{taken_by}
use Rattle.c_addresses.specs.Addresses.{addressed_in}
use Rattle.c_scopes.specs.Scopes.{Scopes}
use Rattle.c_typing.specs.declared.environment.Entity.{Entity}
use Rattle.c_typing.specs.declared.environment.Entity.TheVariants as entity
use Rattle.c_typing.specs.declared.environment.Environment.{Environment}
use Rattle.c_programs.specs.declared.functions.Whole.{Whole}
use Rattle.expression_laws.specs.Keeping.{Each}
use Rattle.address_laws.specs.Following.{Outside}

-- names are bound to declarations that stand, and each object that a name stands for has one of them
pub record IsDeclaredIn (names : Scopes) (entities : List Entity) (objects : List Object) : Type 0 where
  pub numbers : Each (λ b. b.number < length entities) names.bound
  pub within : (i k : ℕ) → slice_get entities i ≡ Some (entity.Object k) → k < length objects
  pub apart : (i j k : ℕ) → slice_get entities i ≡ Some (entity.Object k) → slice_get entities j ≡ Some (entity.Object k) → i ≡ j

abbrev pub IsDeclared : Environment → Type 0
IsDeclared env = IsDeclaredIn env.names env.entities env.objects

-- what stands outside of a function that begins
abbrev pub start_of : Environment → Outside
start_of env = record { base = length env.entities; names = env.names }

abbrev pub whole_takes : Whole → List ℕ
whole_takes whole = taken_by whole.body

-- the address of what the function declares and doesn't mark isn't taken, and it is automatic
abbrev pub Marked : Function → ℕ → Whole → Environment → Type 0
Marked f base whole new =
    (n k : ℕ) → base ≤ n → slice_get new.entities n ≡ Some (entity.Object k) → slice_get (addressed_in f) (n - base) ≡ Some false
    → (list_any (λ j. nat_le j k && nat_le k j) (taken_by whole.body) ≡ false) × (k < length new.objects) × ((object : Object) → slice_get new.objects k ≡ Some object → object.start ≡ None)
