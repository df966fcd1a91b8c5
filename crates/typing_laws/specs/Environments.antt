-- What holds of every environment, and environments with more declared.
use Rattle.std.specs.Prelude.{◌≡◌, ◌≤◌, ℕ, true, nat_lt, Some, length, slice_get}
use Rattle.hy_bits.specs.declared.scalar.Scalar.TheVariants.{S32}
use Rattle.hy_bits.specs.Scalar.{scalar_width}
use Rattle.hy_bits.specs.Words.{IsWord}
use Rattle.c_meaning.specs.declared.types.Object.{Object}
use Rattle.c_meaning.specs.declared.programs.TypedFunction.{TypedFunction}
use Rattle.c_meaning.specs.Types.{cells_of, struct_cells}
use Rattle.c_meaning.specs.StatementRules.{StructsFit, StartWords, is_result, cells_in, most_cells}
use Rattle.c_typing.specs.declared.environment.Entity.TheVariants as entity
use Rattle.c_typing.specs.declared.environment.Environment.{Environment}
use Rattle.c_typing.specs.declared.environment.QualifiedType.{QualifiedType}
use Rattle.c_typing.specs.declared.environment.Tag.TheVariants as tag
use Rattle.typing_laws.specs.Scopes.{Grows}
use Rattle.typing_laws.specs.Values.{IsPlaceType, IsPlainType}

pub record IsWellFormed (env : Environment) : Type 0 where
  pub structs : StructsFit (struct_cells env.structs) 0 env.structs
  pub objects : (k : ℕ) (object : Object) → slice_get env.objects k ≡ Some object → IsPlaceType env.structs object.ctype
  pub typedefs : (k : ℕ) (q : QualifiedType) → slice_get env.typedefs k ≡ Some q → IsPlainType env.structs q.ctype
  pub functions : (k : ℕ) (f : TypedFunction) → slice_get env.functions k ≡ Some f → is_result (length env.structs) f.result ≡ true
  pub tags : (k number : ℕ) → slice_get env.tags k ≡ Some (tag.Complete number) → nat_lt number (length env.structs) ≡ true
  pub starts : (k : ℕ) (object : Object) → slice_get env.objects k ≡ Some object
      → (object.cells ≡ cells_of (struct_cells env.structs) object.ctype) × StartWords env.structs object object.start
  pub cells : env.cells ≡ cells_in env.objects
  pub few : env.cells ≤ most_cells
  pub enumerators : (k w : ℕ) → slice_get env.entities k ≡ Some (entity.Enumerator w) → IsWord (scalar_width S32) w

-- declarations within a function, or between functions, stand at the end of each list. A struct's tag is told anew when its members stand
pub record Extends (old new : Environment) : Type 0 where
  pub structs : Grows old.structs new.structs
  pub objects : Grows old.objects new.objects
  pub functions : new.functions ≡ old.functions
  pub typedefs : Grows old.typedefs new.typedefs
  pub entities : Grows old.entities new.entities
  pub names : Grows old.names.bound new.names.bound
  pub opened : new.names.opened ≡ old.names.opened
