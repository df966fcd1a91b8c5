-- What the execution of expressions leaves.
use Rattle.std.specs.Prelude.{ℕ, Bool, List, []}
use Rattle.std.specs.List.{All}
use Rattle.hy_bits.specs.Scalar.{scalar_width}
use Rattle.word_graph.specs.declared.entry.Entry.{Entry}
use Rattle.word_graph.specs.declared.entry.Node.{Node}
use Rattle.word_graph.specs.Meaning.{InputsFit}
use Rattle.word_nodes.specs.Nodes.{worth}
use Rattle.c_meaning.specs.declared.types.ValueKind.{ValueKind}
use Rattle.c_meaning.specs.declared.types.ValueKind.TheVariants as kind
use Rattle.c_meaning.specs.Types.{kind_of, struct_cells}
use Rattle.c_meaning.specs.TypeRules.{Scope, ExprType, Untyped, AnyPointer, Typed}
use Rattle.c_meaning.specs.declared.expressions.LogicalOperand.{LogicalOperand}
use Rattle.c_meaning.specs.declared.expressions.Lvalue.TheFolds.{every-LogicalOperand}
use Rattle.c_meaning.specs.Rules.{ExprFits, LvalueFits}
use Rattle.c_meaning.specs.State.{State}
use Rattle.c_meaning.specs.Expressions as expressions
use Rattle.c_meaning.specs.Expressions.{Eval, Evaluated, Gives}
use Rattle.c_meaning.specs.Programs.{calls_after}
use Rattle.exec_state.specs.Seen.{Picture, IsTruth}
use Rattle.exec_state.specs.Follow.{Follows}
use Rattle.exec_state.specs.Operands.{all_left}
use Rattle.exec_values.specs.declared.values.WordValue.{WordValue}
use Rattle.exec_values.specs.Views.{ValueStands}
use Rattle.exec_values.specs.Makes.{HasNull, HasPointer, HasWord}
use Rattle.exec_steps.specs.declared.running.Running.{Running}
use Rattle.exec_steps.specs.Running.{shown}
use Rattle.c_exec.specs.declared.world.World.{World}

abbrev pub world_as : World → expressions.World
world_as world = record { structs = struct_cells world.structs.now; calls = calls_after (struct_cells world.structs.now) [] world.functions.now }

abbrev pub scope_of : World → Scope
scope_of world = record { structs = world.structs.now; objects = world.objects.now; functions = world.functions.now }

-- ---- values of types

-- a value of the kind
abbrev pub HasKind : List Entry → ValueKind → WordValue → Type 0
HasKind es kind.Void v = ValueStands es v
HasKind es (kind.Integer t) v = HasWord es (scalar_width t) v
HasKind es kind.Pointer v = HasPointer es v
HasKind es (kind.Struct number) v = ValueStands es v

abbrev pub ValueFits : List Entry → ExprType → WordValue → Type 0
ValueFits es Untyped v = ValueStands es v
ValueFits es AnyPointer v = HasNull es v
ValueFits es (Typed c) v = HasKind es (kind_of c) v

-- ---- truths

abbrev pub FollowsTruth : (State → Evaluated Bool) → (old new : Running) → Node → Node → Type 0
FollowsTruth run old new guard n =
    (ins : List ℕ) → InputsFit old.graph ins → Follows (worth old.graph ins guard) (shown old ins) (shown new ins) (IsTruth (worth new.graph ins n)) run

-- where what is left follows from here on, so does the whole from the begin
abbrev pub Completes : (old new : Running) → (guard : Node) → (left whole : List ℕ → State → Evaluated Bool) → Type 0
Completes old new guard left whole =
    (ins : List ℕ) → InputsFit old.graph ins → (d : Picture) (f : ℕ) →
    Follows (worth old.graph ins guard) (shown new ins) d (IsTruth f) (left ins) → Follows (worth old.graph ins guard) (shown old ins) d (IsTruth f) (whole ins)

-- the operands of "&&" that are left, where those before have a truth
abbrev pub left_of_all : Running → Node → List Eval → List ℕ → State → Evaluated Bool
left_of_all r before operands ins = all_left (worth r.graph ins before) operands

-- ---- operands

abbrev pub IsTypedOperand : Scope → LogicalOperand → Type 0
IsTypedOperand scope = every-LogicalOperand (LvalueFits scope) (ExprFits scope) (λ step. Unit {0}) (λ operand. Unit {0})

abbrev pub AreTypedOperands : Scope → List LogicalOperand → Type 0
AreTypedOperands scope operands = All (IsTypedOperand scope) operands
