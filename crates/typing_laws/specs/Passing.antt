-- Walks that pass with what keeps a rule.
use Rattle.std.specs.Prelude.{◌≡◌, ℕ, Some, List, slice_get}
use Rattle.c_meaning.specs.declared.types.Member.{Member}
use Rattle.c_meaning.specs.declared.types.StructType.{StructType}
use Rattle.c_meaning.specs.TypeRules.{Scope}
use Rattle.c_typing.specs.declared.environment.Environment.{Environment}
use Rattle.c_typing.specs.declared.values.Typing.{Typing}
use Rattle.c_typing.specs.Walks.{Checked, Breaks, Passes}
use Rattle.typing_laws.specs.Values.{IsPlainType, IsTyping}

-- what a walk passes with, and what is declared after it, if it passes
abbrev pub Passing : {A : Type 0} → (A → Environment → Type 0) → Checked A → Type 0
Passing P (Breaks kind place) = Unit {0}
Passing P (Passes a env) = P a env

-- what an environment declares for typed trees
abbrev pub scope_of : Environment → Scope
scope_of env = record { structs = env.structs; objects = env.objects; functions = env.functions }

-- typed in an environment that stays the same
abbrev pub TypedIn : Environment → Typing → Environment → Type 0
TypedIn env t after = (after ≡ env) × IsTyping (scope_of env) t

-- members are of types without pointers
abbrev pub MembersArePlain : List StructType → Type 0
MembersArePlain structs = (k : ℕ) (s : StructType) (m : ℕ) (member : Member) → slice_get structs k ≡ Some s → slice_get s.members m ≡ Some member → IsPlainType structs member.ctype
