-- What holds of the parts of struct and enum bodies as they are walked.
use Rattle.std.specs.Prelude.{◌≡◌, ◌≢◌, ◌≤◌, ℕ, true, nat_le, Option, None, Some, List, [], map, length}
use Rattle.hy_bits.specs.declared.scalar.Scalar.TheVariants.{S32}
use Rattle.hy_bits.specs.Scalar.{scalar_width}
use Rattle.hy_bits.specs.Words.{IsWord}
use Rattle.c_scopes.specs.Scopes.{Bound}
use Rattle.c_meaning.specs.declared.types.CType.{CType}
use Rattle.c_meaning.specs.declared.types.Member.{Member}
use Rattle.c_meaning.specs.Types.{struct_cells}
use Rattle.c_meaning.specs.StatementRules.{AreNames, MembersFill, most_cells, most_elements}
use Rattle.c_typing.specs.declared.environment.Environment.{Environment}
use Rattle.c_typing.specs.declared.structs.Members.{Members}
use Rattle.c_typing.specs.Walks.{Walk}
use Rattle.c_expressions.specs.Typing.{MembersWalk, DeclaratorWalk, EnumeratorWalk, TagWalk}
use Rattle.typing_laws.specs.Values.{IsPlainType}
use Rattle.typing_laws.specs.Passing.{Passing}
use Rattle.typing_laws.specs.Environments.{IsWellFormed}
use Rattle.expression_laws.specs.Keeping.{Grown, Keeps, TypeIn}

abbrev pub names_bound : List Bound → List (List ℕ)
names_bound bound = map (λ b. b.name) bound

abbrev pub names_of : List Member → List (List ℕ)
names_of members = map (λ m. m.name) members

-- members so far: they stand after one another, of structs that stand, with names of their own
pub record MembersIn (env : Environment) (m : Members) : Type 0 where
  pub fill : MembersFill (struct_cells env.structs) (length env.structs) 0 m.members m.cells
  pub names : AreNames (names_of m.members)
  pub bound : names_bound m.names.bound ≡ names_of m.members
  pub few : m.cells ≤ most_cells

abbrev pub SomeMembersIn : Environment → Members → Type 0
SomeMembersIn env m = MembersIn env m × (m.members ≢ [])

abbrev pub PlainIn : Environment → CType → Type 0
PlainIn env c = IsPlainType env.structs c

-- a number of elements
abbrev pub IsCount : ℕ → Type 0
IsCount n = (nat_le 1 n ≡ true) × (nat_le n most_elements ≡ true)

abbrev pub CountIn : Environment → ℕ → Type 0
CountIn env n = IsCount n

-- the word of the next enumerator, if there is one
abbrev pub NextIn : Environment → Option ℕ → Type 0
NextIn env None = Unit {0}
NextIn env (Some w) = IsWord (scalar_width S32) w

abbrev pub WordIn : Environment → ℕ → Type 0
WordIn env w = IsWord (scalar_width S32) w

-- ---- walks of parts

abbrev pub KeepsMembers : MembersWalk → Type 0
KeepsMembers walk = (m : Members) (env : Environment) → IsWellFormed env → MembersIn env m → Passing (Grown SomeMembersIn env) (walk m env)

abbrev pub KeepsDeclarator : DeclaratorWalk → Type 0
KeepsDeclarator walk =
    (c : CType) (m : Members) (env : Environment) → IsWellFormed env → PlainIn env c → MembersIn env m → Passing (Grown SomeMembersIn env) (walk c m env)

abbrev pub KeepsEnumerator : EnumeratorWalk → Type 0
KeepsEnumerator walk = (next : Option ℕ) (env : Environment) → IsWellFormed env → NextIn env next → Passing (Grown NextIn env) (walk next env)

abbrev pub KeepsDimension : Walk ℕ → Type 0
KeepsDimension walk = Keeps CountIn walk

abbrev pub KeepsTag : TagWalk → Type 0
KeepsTag tag = Keeps TypeIn tag.walk
