-- Scopes that grow at the end: what is declared later has the next number. And types of structs that stand.
use Rattle.std.specs.Prelude.{◌≡◌, ℕ, Bool, true, nat_lt, Option, None, Some, List, ◌++◌, length, slice_get}
use Rattle.c_meaning.specs.declared.types.CType.{CType}
use Rattle.c_meaning.specs.declared.types.CType.TheOpen.{CType-F}
use Rattle.c_meaning.specs.declared.types.CType.TheFolds.{fold-CType}
use Rattle.c_meaning.specs.declared.types.Member.{Member}
use Rattle.c_meaning.specs.declared.types.StructType.{StructType}
use Rattle.c_meaning.specs.declared.types.Object.{Object}
use Rattle.c_meaning.specs.declared.programs.TypedFunction.{TypedFunction}
use Rattle.c_meaning.specs.TypeRules.{Scope, ExprType, Untyped, AnyPointer, Typed}

-- a list with more at its end
abbrev pub Grows : {A : Type 0} → List A → List A → Type 0
Grows {A} old new = (added : List A) × (new ≡ old ++ added)

pub record ScopeGrows (old new : Scope) : Type 0 where
  pub structs : Grows old.structs new.structs
  pub objects : Grows old.objects new.objects
  pub functions : Grows old.functions new.functions

abbrev pub layer_stands : ℕ → CType-F Bool → Bool
layer_stands below CType-F.Void = true
layer_stands below (CType-F.Int t) = true
layer_stands below (CType-F.Array count element) = element
layer_stands below (CType-F.Struct number) = nat_lt number below
layer_stands below (CType-F.Pointer qualifier to) = to

-- each struct in the type is one of those below a number
abbrev pub is_standing : ℕ → CType → Bool
is_standing below = fold-CType Bool (layer_stands below)

abbrev pub TypeStands : ℕ → ExprType → Type 0
TypeStands below Untyped = Unit {0}
TypeStands below AnyPointer = Unit {0}
TypeStands below (Typed c) = is_standing below c ≡ true

abbrev pub CTypeStands : ℕ → Option CType → Type 0
CTypeStands below None = Unit {0}
CTypeStands below (Some c) = is_standing below c ≡ true

-- objects, members and results are of structs that stand
pub record ScopeStands (scope : Scope) : Type 0 where
  pub objects : (k : ℕ) (object : Object) → slice_get scope.objects k ≡ Some object → is_standing (length scope.structs) object.ctype ≡ true
  pub members : (k : ℕ) (s : StructType) (m : ℕ) (member : Member) → slice_get scope.structs k ≡ Some s → slice_get s.members m ≡ Some member
      → is_standing (length scope.structs) member.ctype ≡ true
  pub functions : (k : ℕ) (f : TypedFunction) → slice_get scope.functions k ≡ Some f → is_standing (length scope.structs) f.result ≡ true
