-- Walks that keep what is declared and add to it: what they pass with has a rule in the environment after it.
use Rattle.std.specs.Prelude.{◌≡◌, List, [], ◌∷◌}
use Rattle.c_meaning.specs.declared.expressions.TypedExpr.{TypedExpr}
use Rattle.c_meaning.specs.declared.types.CType.{CType, out-CType}
use Rattle.c_meaning.specs.declared.types.CType.TheOpen.{CType-F}
use Rattle.c_meaning.specs.declared.types.StructType.{StructType}
use Rattle.c_meaning.specs.Rules.{IsTypedExpr, IsAssignable}
use Rattle.c_typing.specs.declared.chains.Left.{Left}
use Rattle.c_typing.specs.declared.environment.Environment.{Environment}
use Rattle.c_typing.specs.declared.environment.QualifiedType.{QualifiedType}
use Rattle.c_typing.specs.declared.values.TypedValue.{TypedValue}
use Rattle.c_typing.specs.declared.values.Typing.{Typing}
use Rattle.c_typing.specs.Walks.{Walk}
use Rattle.c_typing.specs.Expressions.{ExprWalk}
use Rattle.typing_laws.specs.Values.{IsValue, IsTyping, IsPlainType}
use Rattle.typing_laws.specs.Passing.{Passing, scope_of}
use Rattle.typing_laws.specs.Environments.{IsWellFormed, Extends}

-- each element has it
abbrev pub Each : {A : Type 0} → (A → Type 0) → List A → Type 0
Each P [] = Unit {0}
Each P (x ∷ xs) = P x × Each P xs

-- what is found has the rule in an environment that stays the same
abbrev pub Stays : {A : Type 0} → (Environment → A → Type 0) → Environment → A → Environment → Type 0
Stays Rule old a new = (new ≡ old) × Rule old a

-- what is found has the rule in an environment that is well formed and has no less declared
abbrev pub Grown : {A : Type 0} → (Environment → A → Type 0) → Environment → A → Environment → Type 0
Grown Rule old a new = Extends old new × IsWellFormed new × Rule new a

abbrev pub Keeps : {A : Type 0} → (Environment → A → Type 0) → Walk A → Type 0
Keeps Rule walk = (env : Environment) → IsWellFormed env → Passing (Grown Rule env) (walk env)

-- ---- rules of what is found

abbrev pub TypingIn : Environment → Typing → Type 0
TypingIn env t = IsTyping (scope_of env) t

abbrev pub ValueIn : Environment → TypedValue → Type 0
ValueIn env value = IsValue (scope_of env) value

abbrev pub LeftIn : Environment → Left → Type 0
LeftIn env left = IsValue (scope_of env) left.value

-- an expression that may be assigned to an object of a type
abbrev pub AssignableIn : CType → Environment → TypedExpr → Type 0
AssignableIn target env e = IsTypedExpr (scope_of env) e × IsAssignable (scope_of env) e target

-- ---- walks of parts

abbrev pub KeepsExpr : ExprWalk → Type 0
KeepsExpr e = Keeps TypingIn e.walk

-- a walk over what has a rule
abbrev pub KeepsOver : {A : Type 0} → (Environment → A → Type 0) → (A → Walk A) → Type 0
KeepsOver {A} Rule walk = (a : A) (env : Environment) → IsWellFormed env → Rule env a → Passing (Grown Rule env) (walk a env)

abbrev pub ValuesIn : Environment → List TypedValue → Type 0
ValuesIn env values = Each (ValueIn env) values

-- a type that specifiers name: void, or one of objects without pointers
abbrev pub layer_is_named : List StructType → CType → CType-F CType → Type 0
layer_is_named structs c CType-F.Void = Unit {0}
layer_is_named structs c other = IsPlainType structs c

abbrev pub IsNamedType : List StructType → CType → Type 0
IsNamedType structs c = layer_is_named structs c (out-CType c)

abbrev pub NamedIn : Environment → QualifiedType → Type 0
NamedIn env q = IsNamedType env.structs q.ctype

abbrev pub TypeIn : Environment → CType → Type 0
TypeIn env c = IsNamedType env.structs c
