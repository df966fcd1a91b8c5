-- The rules that statements, functions and programs keep (C11 6.7 to 6.9), each of them a rule of one production.
use Rattle.std.specs.Prelude.{◌≡◌, ◌≢◌, ℕ, ◌+◌, ◌^◌, ◌≤◌, Bool, true, false, ◌&&◌, ◌||◌, nat_le, nat_lt, if◌then◌else◌, Option, None, Some, List, [], ◌∷◌, ◌++◌, map, take, slice_get, length, Contains, codes}
use Rattle.std.specs.List.{list_any}
use Rattle.std.specs.Str.{bytes_eq}
use Rattle.c_tree.specs.Names.{is_name}
use Rattle.hy_bits.specs.declared.scalar.Scalar.{Scalar}
use Rattle.hy_bits.specs.declared.shape.Port.{Port}
use Rattle.hy_bits.specs.declared.shape.Shape.{Shape}
use Rattle.hy_bits.specs.declared.turns.Role.{Role}
use Rattle.hy_bits.specs.declared.turns.Role.TheVariants.{P0, P1}
use Rattle.hy_bits.specs.Scalar.{scalar_width}
use Rattle.hy_bits.specs.Words.{IsWord}
use Rattle.c_meaning.specs.declared.types.CType.{CType, out-CType}
use Rattle.c_meaning.specs.declared.types.CType.TheVariants as ctype
use Rattle.c_meaning.specs.declared.types.CType.TheOpen.{CType-F}
use Rattle.c_meaning.specs.declared.types.CType.TheFolds.{fold-CType}
use Rattle.c_meaning.specs.declared.types.Qualifier.TheVariants.{Unqualified}
use Rattle.c_meaning.specs.declared.types.Member.{Member}
use Rattle.c_meaning.specs.declared.types.StructType.{StructType}
use Rattle.c_meaning.specs.declared.types.Object.{Object}
use Rattle.c_meaning.specs.declared.types.ValueKind.{ValueKind}
use Rattle.c_meaning.specs.declared.types.ValueKind.TheVariants as kind
use Rattle.c_meaning.specs.declared.expressions.TypedExpr.{TypedExpr}
use Rattle.c_meaning.specs.declared.expressions.Lvalue.{Lvalue}
use Rattle.c_meaning.specs.declared.programs.TypedFunction.{TypedFunction}
use Rattle.c_meaning.specs.declared.statements.TypedEffect.{TypedEffect}
use Rattle.c_meaning.specs.declared.statements.TypedEffect.TheVariants as effect
use Rattle.c_meaning.specs.declared.statements.Part.{Part}
use Rattle.c_meaning.specs.declared.statements.TypedDeclarator.{TypedDeclarator}
use Rattle.c_meaning.specs.declared.statements.Controlling.{Controlling}
use Rattle.c_meaning.specs.declared.statements.Counter.{Counter}
use Rattle.c_meaning.specs.declared.statements.TypedFirst.{TypedFirst}
use Rattle.c_meaning.specs.declared.statements.TypedFirst.TheVariants as first
use Rattle.c_meaning.specs.declared.statements.TypedStep.{TypedStep}
use Rattle.c_meaning.specs.declared.statements.TypedLabel.{TypedLabel}
use Rattle.c_meaning.specs.declared.statements.TypedLabel.TheVariants as label
use Rattle.c_meaning.specs.declared.statements.TypedStatement.{TypedStatement}
use Rattle.c_meaning.specs.declared.statements.TypedBlock.{TypedBlock}
use Rattle.c_meaning.specs.declared.statements.TypedItem.{TypedItem}
use Rattle.c_meaning.specs.declared.statements.TypedIteration.{TypedIteration}
use Rattle.c_meaning.specs.declared.statements.TypedSelection.{TypedSelection}
use Rattle.c_meaning.specs.declared.statements.TypedSection.{TypedSection}
use Rattle.c_meaning.specs.declared.statements.TypedItem.TheViews.{out-TypedSection}
use Rattle.c_meaning.specs.declared.statements.TypedItem.TheOpen.{TypedItem-F, TypedIteration-F, TypedSelection-F, TypedStatement-F, TypedBlock-F, TypedSection-F}
use Rattle.c_meaning.specs.declared.statements.TypedItem.TheFolds.{every-TypedBlock, fold-TypedBlock}
use Rattle.c_meaning.specs.Operations.{left_type, right_type}
use Rattle.c_meaning.specs.Types.{cells_of, struct_cells, scalars_of, struct_scalars, kind_of, shape_of, struct_shapes}
use Rattle.c_meaning.specs.Sizes.{promoted}
use Rattle.c_meaning.specs.SizeFolds.{program_size, saturated, is_pointer}
use Rattle.c_meaning.specs.Uses.{assigned_in, taken_by}
use Rattle.c_meaning.specs.Counting.{first_word, is_condition_on, holds_at, CountingStep, counting_step, stepped, turns_within, most_turns}
use Rattle.c_meaning.specs.declared.typed.TypedParts.{TypedParts}
use Rattle.c_meaning.specs.TypeRules.{Scope, Typed, designated_by, pointee}
use Rattle.c_meaning.specs.Rules.{IsOfType, IsInteger, IsCondition, IsAssignable, IsTypedExpr, IsTypedLvalue}

-- ---- where a statement stands: its function's result, and the objects whose addresses the function takes
pub record Within : Type 0 where
  pub scope : Scope
  pub result : CType
  pub taken : List ℕ

-- ---- expression statements

-- C11 6.5.16p2: an lvalue that isn't const
abbrev pub IsModifiable : Scope → Lvalue → CType → Type 0
IsModifiable scope target c = IsTypedLvalue scope target × IsOfType scope target c × ((designated_by scope target).qualifier ≡ Unqualified)

abbrev pub EffectFits : Scope → TypedEffect → Type 0
-- C11 6.5.16.1p1
EffectFits scope (effect.Assignment place target k value) =
    (c : CType) × IsModifiable scope target c × (kind_of c ≡ k) × IsTypedExpr scope value × IsAssignable scope value c
-- C11 6.5.16.2p2
EffectFits scope (effect.Compound form place target t op value) =
    IsModifiable scope target (ctype.Int t) × IsTypedExpr scope value × IsInteger scope value (right_type op)
    × (promoted (left_type op) ≡ left_type op)
-- C11 6.5.16.2p1
EffectFits scope (effect.Advance form place target way t value) =
    (c : CType) × IsModifiable scope target c × (kind_of c ≡ kind.Pointer) × IsTypedExpr scope value × IsInteger scope value t
EffectFits scope (effect.Call call) = IsTypedExpr scope call

-- ---- declarations

abbrev pub PartFits : Scope → Part → Option TypedExpr → Type 0
PartFits scope part None = (t : Scalar) × (part.kind ≡ kind.Integer t)
PartFits scope part (Some value) = IsTypedExpr scope value × ((c : CType) × IsAssignable scope value c × (kind_of c ≡ part.kind))

abbrev pub size_of_kind : Scope → ValueKind → ℕ
size_of_kind scope kind.Void = 0
size_of_kind scope (kind.Integer t) = 1
size_of_kind scope kind.Pointer = 1
size_of_kind scope (kind.Struct number) = cells_of (struct_cells scope.structs) (ctype.Struct number)

-- C11 6.7.9: the parts follow one another from a cell on, and fill the object
abbrev pub PartsFill : Scope → ℕ → ℕ → List Part → Type 0
PartsFill scope at end [] = at ≡ end
PartsFill scope at end (part ∷ parts) = (part.cell ≡ at) × PartFits scope part part.value × PartsFill scope (at + size_of_kind scope part.kind) end parts

abbrev pub StartFits : Scope → Object → Option (List Part) → Type 0
StartFits scope object None = Unit {0}
StartFits scope object (Some parts) = PartsFill scope 0 object.cells parts

abbrev pub DeclaratorFits : Scope → TypedDeclarator → Type 0
DeclaratorFits scope d = (object : Object) × (slice_get scope.objects d.object ≡ Some object) × (object.start ≡ None) × StartFits scope object d.start

abbrev pub DeclaratorsFit : Scope → List TypedDeclarator → Type 0
DeclaratorsFit scope [] = Unit {0}
DeclaratorsFit scope (d ∷ ds) = DeclaratorFits scope d × DeclaratorsFit scope ds

-- ---- loops

abbrev pub ControllingFits : Scope → Controlling → Type 0
ControllingFits scope c = IsTypedExpr scope c.value × IsCondition scope c.value

abbrev pub ControllingWhere : Scope → Option Controlling → Type 0
ControllingWhere scope None = Unit {0}
ControllingWhere scope (Some c) = ControllingFits scope c

abbrev pub FirstFits : Scope → TypedFirst → Type 0
FirstFits scope first.Nothing = Unit {0}
FirstFits scope (first.Objects declared) = DeclaratorsFit scope declared
FirstFits scope (first.Effect effect) = EffectFits scope effect

abbrev pub StepFits : Scope → Option TypedStep → Type 0
StepFits scope None = Unit {0}
StepFits scope (Some step) = EffectFits scope step.effect

abbrev pub most_bound : ℕ
most_bound = 2 ^ 20

-- the head alone gives the object this number of turns, and nothing else can change it
abbrev pub Counts : Within → ℕ → ℕ → TypedFirst → Controlling → TypedStep → TypedStatement → Type 0
Counts within k turns initial condition step body =
    (start : ℕ) × (by : CountingStep) × (object : Object)
    × (first_word k initial ≡ Some start)
    × (is_condition_on k condition.value ≡ true)
    × (counting_step k step.effect ≡ Some by)
    × (turns_within most_turns (holds_at k condition.value) (stepped by.scalar by.operation by.by) start ≡ Some turns)
    × (slice_get within.scope.objects k ≡ Some object) × (object.ctype ≡ ctype.Int by.scalar) × (object.start ≡ None)
    × (list_any (λ j. nat_le j k && nat_le k j) (assigned_in body) ≡ false)
    × (list_any (λ j. nat_le j k && nat_le k j) within.taken ≡ false)

abbrev pub CounterFits : Within → Option Counter → TypedFirst → Option Controlling → Option TypedStep → TypedStatement → Type 0
CounterFits within None initial condition step body = Unit {0}
CounterFits within (Some counter) initial None step body = ⊥
CounterFits within (Some counter) initial (Some condition) None body = ⊥
CounterFits within (Some counter) initial (Some condition) (Some step) body = Counts within counter.object counter.turns initial condition step body

abbrev pub IterationFits : Within → TypedIteration-F TypedItem TypedIteration TypedSelection TypedStatement TypedBlock TypedSection → Type 0
IterationFits within (TypedIteration-F.While tokens bound condition body) = (bound ≤ most_bound) × ControllingFits within.scope condition
IterationFits within (TypedIteration-F.Do tokens bound body condition) = (bound ≤ most_bound) × ControllingFits within.scope condition
IterationFits within (TypedIteration-F.For tokens bound counter initial condition step body) =
    (bound ≤ most_bound) × FirstFits within.scope initial × ControllingWhere within.scope condition × StepFits within.scope step
    × CounterFits within counter initial condition step body

-- ---- selection statements

abbrev pub LabelFits : Scalar → TypedLabel → Type 0
LabelFits t (label.Case w) = IsWord (scalar_width t) w
LabelFits t label.Default = Unit {0}

abbrev pub LabelsFit : Scalar → List TypedLabel → Type 0
LabelsFit t [] = Unit {0}
LabelsFit t (l ∷ ls) = LabelFits t l × (Contains ls l → ⊥) × LabelsFit t ls

abbrev pub labels_of : List TypedSection → List TypedLabel
labels_of [] = []
labels_of (section ∷ sections) = (out-TypedSection section).labels ++ labels_of sections

-- C11 6.8.4.2p1, p3: no label stands twice
abbrev pub SelectionFits : Within → TypedSelection-F TypedItem TypedIteration TypedSelection TypedStatement TypedBlock TypedSection → Type 0
SelectionFits within (TypedSelection-F.If tokens condition consequence otherwise) =
    IsTypedExpr within.scope condition × IsCondition within.scope condition
SelectionFits within (TypedSelection-F.Switch tokens t value sections) =
    IsTypedExpr within.scope value × IsInteger within.scope value t × (promoted t ≡ t) × LabelsFit t (labels_of sections)

-- ---- other statements

-- C11 6.8.6.4p1
abbrev pub ReturnFits : Within → ValueKind → Option TypedExpr → Type 0
ReturnFits within k None = (kind_of within.result ≡ kind.Void) × (k ≡ kind.Void)
ReturnFits within k (Some value) = IsTypedExpr within.scope value × IsAssignable within.scope value within.result × (kind_of within.result ≡ k)

abbrev pub StatementFits : Within → TypedStatement-F TypedItem TypedIteration TypedSelection TypedStatement TypedBlock TypedSection → Type 0
StatementFits within (TypedStatement-F.Block block) = Unit {0}
StatementFits within TypedStatement-F.Empty = Unit {0}
StatementFits within (TypedStatement-F.Effect tokens effect) = EffectFits within.scope effect
StatementFits within TypedStatement-F.Break = Unit {0}
StatementFits within TypedStatement-F.Continue = Unit {0}
StatementFits within (TypedStatement-F.Return tokens k value) = ReturnFits within k value
StatementFits within (TypedStatement-F.Selection selection) = Unit {0}
StatementFits within (TypedStatement-F.Iteration iteration) = Unit {0}

abbrev pub ItemFits : Within → TypedItem-F TypedItem TypedIteration TypedSelection TypedStatement TypedBlock TypedSection → Type 0
ItemFits within (TypedItem-F.Statement statement) = Unit {0}
ItemFits within (TypedItem-F.Object declared) = DeclaratorFits within.scope declared

abbrev pub IsTypedBlock : Within → TypedBlock → Type 0
IsTypedBlock within =
    every-TypedBlock (ItemFits within) (IterationFits within) (SelectionFits within) (StatementFits within) (λ block. Unit {0}) (λ section. Unit {0})

-- ---- jumps: which of them leave a statement (C11 6.8.6.2, 6.8.6.3)

pub record Jumps : Type 0 where
  pub breaks : Bool
  pub continues : Bool

abbrev pub no_jumps : Jumps
no_jumps = record { breaks = false; continues = false }

abbrev pub either : Jumps → Jumps → Jumps
either a b = record { breaks = a.breaks || b.breaks; continues = a.continues || b.continues }

abbrev pub any_jumps : List Jumps → Jumps
any_jumps [] = no_jumps
any_jumps (a ∷ rest) = either a (any_jumps rest)

abbrev pub option_jumps : Option Jumps → Jumps
option_jumps None = no_jumps
option_jumps (Some a) = a

abbrev pub item_jumps : TypedItem-F Jumps Jumps Jumps Jumps Jumps Jumps → Jumps
item_jumps (TypedItem-F.Statement statement) = statement
item_jumps (TypedItem-F.Object declared) = no_jumps

abbrev pub iteration_jumps : TypedIteration-F Jumps Jumps Jumps Jumps Jumps Jumps → Jumps
iteration_jumps iteration = no_jumps

abbrev pub selection_jumps : TypedSelection-F Jumps Jumps Jumps Jumps Jumps Jumps → Jumps
selection_jumps (TypedSelection-F.If tokens condition consequence otherwise) = either consequence (option_jumps otherwise)
selection_jumps (TypedSelection-F.Switch tokens t value sections) = record { breaks = false; continues = (any_jumps sections).continues }

abbrev pub statement_jumps : TypedStatement-F Jumps Jumps Jumps Jumps Jumps Jumps → Jumps
statement_jumps (TypedStatement-F.Block block) = block
statement_jumps TypedStatement-F.Empty = no_jumps
statement_jumps (TypedStatement-F.Effect tokens effect) = no_jumps
statement_jumps TypedStatement-F.Break = record { breaks = true; continues = false }
statement_jumps TypedStatement-F.Continue = record { breaks = false; continues = true }
statement_jumps (TypedStatement-F.Return tokens k value) = no_jumps
statement_jumps (TypedStatement-F.Selection selection) = selection
statement_jumps (TypedStatement-F.Iteration iteration) = iteration

abbrev pub block_jumps : TypedBlock-F Jumps Jumps Jumps Jumps Jumps Jumps → Jumps
block_jumps block = any_jumps block.items

abbrev pub section_jumps : TypedSection-F Jumps Jumps Jumps Jumps Jumps Jumps → Jumps
section_jumps section = any_jumps section.statements

abbrev pub jumps_of : TypedBlock → Jumps
jumps_of = fold-TypedBlock Jumps Jumps Jumps Jumps Jumps Jumps item_jumps iteration_jumps selection_jumps statement_jumps block_jumps section_jumps

-- ---- types and objects

abbrev pub most_elements : ℕ
most_elements = 65536

abbrev pub most_cells : ℕ
most_cells = 2 ^ 16

-- a type of objects without pointers, of structs below a number
abbrev pub layer_is_plain : ℕ → CType-F Bool → Bool
layer_is_plain below CType-F.Void = false
layer_is_plain below (CType-F.Int t) = true
layer_is_plain below (CType-F.Array count element) = nat_le 1 count && nat_le count most_elements && element
layer_is_plain below (CType-F.Struct number) = nat_lt number below
layer_is_plain below (CType-F.Pointer qualifier to) = false

abbrev pub is_plain : ℕ → CType → Bool
is_plain below = fold-CType Bool (layer_is_plain below)

abbrev pub layer_is_object : ℕ → CType → CType-F CType → Bool
layer_is_object below c (CType-F.Pointer qualifier to) = is_plain below to
layer_is_object below c other = is_plain below c

-- a pointer to a type without pointers, or such a type
abbrev pub is_object_type : ℕ → CType → Bool
is_object_type below c = layer_is_object below c (out-CType c)

-- names, each once
abbrev pub AreNames : List (List ℕ) → Type 0
AreNames [] = Unit {0}
AreNames (name ∷ names) = (is_name name ≡ true) × (Contains names name → ⊥) × AreNames names

-- the members stand after one another from a cell on, each of structs that stand before
abbrev pub MembersFill : List ℕ → ℕ → ℕ → List Member → ℕ → Type 0
MembersFill structs below at [] end = at ≡ end
MembersFill structs below at (member ∷ members) end =
    (is_plain below member.ctype ≡ true) × (member.offset ≡ at) × (member.cells ≡ cells_of structs member.ctype)
    × MembersFill structs below (at + member.cells) members end

pub record IsStruct (structs : List ℕ) (below : ℕ) (s : StructType) : Type 0 where
  pub some : s.members ≢ []
  pub members : MembersFill structs below 0 s.members s.cells
  pub names : AreNames (map (λ m. m.name) s.members)
  pub few : s.cells ≤ most_cells

abbrev pub StructsFit : List ℕ → ℕ → List StructType → Type 0
StructsFit structs below [] = Unit {0}
StructsFit structs below (s ∷ ss) = IsStruct structs below s × StructsFit structs (below + 1) ss

-- a word of the type of each cell
abbrev pub WordsFit : List Scalar → List ℕ → Type 0
WordsFit [] [] = Unit {0}
WordsFit [] (w ∷ ws) = ⊥
WordsFit (t ∷ ts) [] = ⊥
WordsFit (t ∷ ts) (w ∷ ws) = IsWord (scalar_width t) w × WordsFit ts ws

abbrev pub layer_start_words : List StructType → CType → CType-F CType → List ℕ → Type 0
layer_start_words structs c (CType-F.Pointer qualifier to) words = words ≡ 0 ∷ []
layer_start_words structs c other words = WordsFit (scalars_of (struct_scalars structs) c) words

-- C11 6.7.9p4, p10: the words of an object of file scope, a null pointer's 0 among them
abbrev pub StartWords : List StructType → Object → Option (List ℕ) → Type 0
StartWords structs object None = Unit {0}
StartWords structs object (Some words) = (length words ≡ object.cells) × layer_start_words structs object.ctype (out-CType object.ctype) words

pub record IsObject (structs : List StructType) (object : Object) : Type 0 where
  pub typed : is_object_type (length structs) object.ctype ≡ true
  pub cells : object.cells ≡ cells_of (struct_cells structs) object.ctype
  pub start : StartWords structs object object.start

abbrev pub ObjectsFit : List StructType → List Object → Type 0
ObjectsFit structs [] = Unit {0}
ObjectsFit structs (object ∷ objects) = IsObject structs object × ObjectsFit structs objects

abbrev pub cells_in : List Object → ℕ
cells_in [] = 0
cells_in (object ∷ objects) = object.cells + cells_in objects

-- ---- functions

-- C11 6.7.6.3p7, 6.9.1p7: a parameter is an object of its own, an integer, a pointer or a struct
abbrev pub AreParameters : List Object → List ℕ → Type 0
AreParameters objects [] = Unit {0}
AreParameters objects (k ∷ ks) =
    ((object : Object) × (slice_get objects k ≡ Some object) × (object.start ≡ None) × (kind_of object.ctype ≢ kind.Void)) × AreParameters objects ks

-- C11 6.9.1p3: the result is void or an object's type without an array
abbrev pub layer_is_result : ℕ → CType-F CType → Bool
layer_is_result below CType-F.Void = true
layer_is_result below (CType-F.Int t) = true
layer_is_result below (CType-F.Array count element) = false
layer_is_result below (CType-F.Struct number) = nat_lt number below
layer_is_result below (CType-F.Pointer qualifier to) = false

abbrev pub is_result : ℕ → CType → Bool
is_result below c = layer_is_result below (out-CType c)

-- a function, by those that stand before it
pub record IsFunction (scope : Scope) (f : TypedFunction) : Type 0 where
  pub result : is_result (length scope.structs) f.result ≡ true
  pub params : AreParameters scope.objects f.params
  pub body : IsTypedBlock (record { scope = scope; result = f.result; taken = taken_by f.body }) f.body
  pub jumps : jumps_of f.body ≡ no_jumps

abbrev pub FunctionsFit : List StructType → List Object → List TypedFunction → List TypedFunction → Type 0
FunctionsFit structs objects before [] = Unit {0}
FunctionsFit structs objects before (f ∷ fs) =
    IsFunction (record { structs = structs; objects = objects; functions = before }) f × FunctionsFit structs objects (before ++ f ∷ []) fs

-- ---- the entry

-- the shape of a parameter of `mpc_main`: that of its type, or of the array after it that it points to
abbrev pub parameter_shape : List StructType → List Object → ℕ → Object → Option Shape
parameter_shape structs objects k object =
    if is_pointer (kind_of object.ctype)
    then (elim (slice_get objects (k + 1)) [ None ↦ None | Some array ↦ shape_of (struct_shapes structs) array.ctype ])
    else shape_of (struct_shapes structs) object.ctype

-- a pointer to the first element of the array that is the next object
abbrev pub PointsToArray : List Object → ℕ → Object → Type 0
PointsToArray objects k object =
    kind_of object.ctype ≡ kind.Pointer →
    (array : Object) × (count : ℕ) × (element : CType)
    × (slice_get objects (k + 1) ≡ Some array) × (array.ctype ≡ ctype.Array count element) × (array.start ≡ None)
    × ((pointee (Typed object.ctype)).ctype ≡ Some element)

abbrev pub prefix_length : ℕ
prefix_length = 7

-- whose a parameter is: P0's where its name begins with INPUT_A, and P1's where it begins with INPUT_B
abbrev pub party_of : List ℕ → Option Role
party_of name =
    if bytes_eq (take prefix_length name) (codes "INPUT_A") then Some P0
    else if bytes_eq (take prefix_length name) (codes "INPUT_B") then Some P1
    else None

abbrev pub PortsFit : List StructType → List Object → List ℕ → List Port → Type 0
PortsFit structs objects [] [] = Unit {0}
PortsFit structs objects [] (port ∷ ports) = ⊥
PortsFit structs objects (k ∷ ks) [] = ⊥
PortsFit structs objects (k ∷ ks) (port ∷ ports) =
    ((object : Object) × (slice_get objects k ≡ Some object) × (object.name ≡ port.name) × (party_of port.name ≡ Some port.role)
    × (parameter_shape structs objects k object ≡ Some port.shape) × PointsToArray objects k object)
    × PortsFit structs objects ks ports

-- a program that keeps the rules of types, with its sizes
pub record IsTyped (program : TypedParts) : Type 0 where
  pub structs : StructsFit (struct_cells program.structs) 0 program.structs
  pub objects : ObjectsFit program.structs program.objects
  pub functions : FunctionsFit program.structs program.objects [] program.functions
  pub main : (f : TypedFunction) × (slice_get program.functions program.main_function ≡ Some f)
      × PortsFit program.structs program.objects f.params program.ports
      × (shape_of (struct_shapes program.structs) f.result ≡ Some program.result)
  pub regions : AreNames (map (λ f. f.name) program.functions)
  pub names : AreNames (map (λ port. port.name) program.ports)
  pub cells : program.cells ≡ cells_in program.objects
  pub few : program.cells ≤ most_cells
  pub visits : program.visits ≡ saturated (program_size program).visits
  pub nodes : program.nodes ≡ saturated (program_size program).nodes
  pub gates : program.gates ≡ saturated (program_size program).gates
