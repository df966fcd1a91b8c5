-- What statements mean (C11 6.7, 6.8): the rule of each production, by the meanings of its parts.
use Rattle.std.specs.Prelude.{ℕ, ℤ, zero, suc, ◌==◌, Bool, true, false, if◌then◌else◌, Option, None, Some, List, [], ◌∷◌, map}
use Rattle.std.specs.List.{flat_map, list_any}
use Rattle.hy_bits.specs.declared.scalar.Scalar.{Scalar}
use Rattle.c_tree.specs.declared.token.Place.{Place}
use Rattle.c_meaning.specs.declared.types.ValueKind.{ValueKind}
use Rattle.c_meaning.specs.declared.types.ValueKind.TheVariants as kind
use Rattle.c_meaning.specs.declared.operators.Direction.{Direction}
use Rattle.c_meaning.specs.declared.operators.IntegerOperation.{IntegerOperation}
use Rattle.c_meaning.specs.declared.expressions.TypedExpr.{TypedExpr}
use Rattle.c_meaning.specs.declared.statements.TypedEffect.{TypedEffect}
use Rattle.c_meaning.specs.declared.statements.TypedEffect.TheVariants as effect
use Rattle.c_meaning.specs.declared.statements.Part.{Part}
use Rattle.c_meaning.specs.declared.statements.TypedDeclarator.{TypedDeclarator}
use Rattle.c_meaning.specs.declared.statements.Controlling.{Controlling}
use Rattle.c_meaning.specs.declared.statements.TypedFirst.{TypedFirst}
use Rattle.c_meaning.specs.declared.statements.TypedFirst.TheVariants as first
use Rattle.c_meaning.specs.declared.statements.TypedStep.{TypedStep}
use Rattle.c_meaning.specs.declared.statements.TypedLabel.{TypedLabel}
use Rattle.c_meaning.specs.declared.statements.TypedLabel.TheVariants as label
use Rattle.c_meaning.specs.declared.values.Ending.{Ending}
use Rattle.c_meaning.specs.declared.values.Ending.TheVariants as ending
use Rattle.c_meaning.specs.declared.values.Undefined.TheVariants as undefined
use Rattle.c_meaning.specs.Operations.{left_type, converted_to, operated, undefined_operation}
use Rattle.c_meaning.specs.State.{State, Address, Spot, flagged, flagged_where, element_of, begun, all_ended, written}
use Rattle.c_meaning.specs.Expressions.{Evaluated, Gives, Past, World, Eval, Value, Locate, after, of_word, of_address, word_in, word_as, address_in, holds, zeros, read_at, offset_by, moved_from}
use Rattle.c_meaning.specs.ExpressionFolds.{evaluates, locates}

-- ---- what execution gives

-- how it ended, and the state after it
pub record Ran : Type 0 where
  pub ending : Ending
  pub state : State

abbrev pub Exec : Type 0
Exec = State → Ran

abbrev pub ends : Ending → Exec
ends how s = record { ending = how; state = s }

-- goes on where what was executed ended normally
abbrev pub continued : Ending → State → Exec → Ran
continued ending.Normal s next = next s
continued ending.Break s next = ends ending.Break s
continued ending.Continue s next = ends ending.Continue s
continued ending.Return s next = ends ending.Return s
continued ending.Past s next = ends ending.Past s

abbrev pub then_run : Ran → Exec → Ran
then_run ran next = continued ran.ending ran.state next

abbrev pub in_order : List Exec → Exec
in_order [] s = ends ending.Normal s
in_order (first ∷ rest) s = then_run (first s) (in_order rest)

-- goes on with a value that was evaluated
abbrev pub ran_after : {A : Type 0} → Evaluated A → (A → Exec) → Ran
ran_after (Gives a s) next = next a s
ran_after (Past s) next = ends ending.Past s

-- the state is changed in the end, however it ended
abbrev pub finally : (State → State) → Ran → Ran
finally change ran = record { ending = ran.ending; state = change ran.state }

-- ---- expression statements (C11 6.5.16, 6.8.3)

-- into the element, if there is one
abbrev pub stored_at : Place → Option Spot → Value → Exec
stored_at place None value s = ends ending.Normal (flagged undefined.Bounds place s)
stored_at place (Some spot) value s = ends ending.Normal (written spot.object spot.at value s)

abbrev pub stored : Place → Address → Value → Exec
stored place target value s = stored_at place (element_of target) value s

-- C11 6.5.16.1: unary "=" expression
abbrev pub assign : Locate → Eval → Exec
assign target value s = ran_after (target.locate s) (λ p s. ran_after (value s) (λ v s. stored target.place p v s))

-- C11 6.5.16.2, 6.5.2.4, 6.5.3.1: the place, the right side, the old value, the operation in its type, the store. `place` is the
-- operator's, and `at` the target's
abbrev pub changed : World → Place → Place → Scalar → IntegerOperation → Address → ℕ → Exec
changed world place at t op p w s =
    ran_after (read_at world (kind.Integer t) at (element_of p) s) (λ old s.
    let a = converted_to t (left_type op) (word_in old) in
    stored at p (of_word (converted_to (left_type op) t (operated op a w))) (flagged_where (undefined_operation op a w) place s))

abbrev pub compound : World → Place → Locate → Scalar → IntegerOperation → Eval → Exec
compound world place target t op value s =
    ran_after (target.locate s) (λ p s. ran_after (value s) (λ v s. changed world place target.place t op p (word_in v) s))

-- a pointer that is moved by an integer
abbrev pub advanced : World → Place → Place → ℤ → Address → Exec
advanced world place at by p s =
    ran_after (read_at world kind.Pointer at (element_of p) s) (λ old s.
    ran_after (moved_from place by (address_in old) s) (λ q s. stored at p (of_address q) s))

abbrev pub advance : World → Place → Locate → Direction → Scalar → Eval → Exec
advance world place target way t value s =
    ran_after (target.locate s) (λ p s. ran_after (value s) (λ v s. advanced world place target.place (offset_by way t (word_as t v)) p s))

abbrev pub effect_run : World → TypedEffect → Exec
effect_run world (effect.Assignment place target k value) s = assign (locates world target) (evaluates world value) s
effect_run world (effect.Compound form place target t op value) s = compound world place (locates world target) t op (evaluates world value) s
effect_run world (effect.Advance form place target way t value) s = advance world place (locates world target) way t (evaluates world value) s
effect_run world (effect.Call call) s = ran_after (evaluates world call s) (λ v s. ends ending.Normal s)

-- ---- declarations (C11 6.7, 6.7.9)

-- a part of an initializer: its value, stored from its cell on
abbrev pub part_value : World → ValueKind → Option TypedExpr → Eval
part_value world k None s = Gives (zeros world k) s
part_value world k (Some value) s = evaluates world value s

abbrev pub part_run : World → ℕ → Part → Exec
part_run world object part s =
    ran_after (part_value world part.kind part.value s) (λ v s. ends ending.Normal (written object part.cell v s))

abbrev pub start_run : World → ℕ → Option (List Part) → Exec
start_run world object None = ends ending.Normal
start_run world object (Some parts) = in_order (map (part_run world object) parts)

abbrev pub declarator_run : World → TypedDeclarator → Exec
declarator_run world declared s = start_run world declared.object declared.start (begun declared.object s)

-- ---- selection statements (C11 6.8.4)

-- C11 6.8.4.1: "if" "(" expression ")" statement ("else" statement)?
abbrev pub otherwise_run : Option Exec → Exec
otherwise_run None = ends ending.Normal
otherwise_run (Some other) = other

abbrev pub if_run : Eval → Exec → Option Exec → Exec
if_run condition consequence otherwise s = ran_after (condition s) (λ v s. if holds v then consequence s else otherwise_run otherwise s)

-- labels and statements of a `switch`
pub record SectionRun : Type 0 where
  pub labels : List TypedLabel
  pub run : Exec

abbrev pub is_case : ℕ → TypedLabel → Bool
is_case w (label.Case value) = w == value
is_case w label.Default = false

abbrev pub is_default : TypedLabel → Bool
is_default (label.Case value) = false
is_default label.Default = true

-- the sections from the first on that has such a label
abbrev pub sections_from : (TypedLabel → Bool) → List SectionRun → List SectionRun
sections_from wanted [] = []
sections_from wanted (section ∷ sections) = if list_any wanted section.labels then section ∷ sections else sections_from wanted sections

abbrev pub case_or_default : List SectionRun → List SectionRun → List SectionRun
case_or_default (section ∷ sections) by_default = section ∷ sections
case_or_default [] by_default = by_default

-- C11 6.8.4.2p4, p5: from the case of the value on, or else from the default on
abbrev pub selected : ℕ → List SectionRun → List SectionRun
selected w sections = case_or_default (sections_from (is_case w) sections) (sections_from is_default sections)

abbrev pub left_switch : Ending → Ending
left_switch ending.Normal = ending.Normal
left_switch ending.Break = ending.Normal
left_switch ending.Continue = ending.Continue
left_switch ending.Return = ending.Return
left_switch ending.Past = ending.Past

abbrev pub out_of_switch : Ran → Ran
out_of_switch ran = ends (left_switch ran.ending) ran.state

-- C11 6.8.4.2: "switch" "(" expression ")" "{" section* "}"
abbrev pub switch_run : Scalar → Eval → List SectionRun → Exec
switch_run t value sections s = ran_after (value s) (λ v s. out_of_switch (in_order (map (λ section. section.run) (selected (word_as t v) sections)) s))

-- ---- iteration statements (C11 6.8.5)

-- whether one more turn is wanted
abbrev pub Test : Type 0
Test = State → Evaluated Bool

abbrev pub test_of : World → Controlling → Test
test_of world condition s = after (evaluates world condition.value s) (λ v s. Gives (holds v) s)

-- C11 6.8.5.3p2: one that is missing holds
abbrev pub test_where : World → Option Controlling → Test
test_where world None s = Gives true s
test_where world (Some condition) s = test_of world condition s

-- a turn's body has ended: what follows it in the loop, if the loop goes on
abbrev pub turn_ended : Ending → State → Exec → Ran
turn_ended ending.Normal s next = next s
turn_ended ending.Continue s next = next s
turn_ended ending.Break s next = ends ending.Normal s
turn_ended ending.Return s next = ends ending.Return s
turn_ended ending.Past s next = ends ending.Past s

abbrev pub after_turn : Ran → Exec → Ran
after_turn ran next = turn_ended ran.ending ran.state next

-- at most n turns, each after a test that holds. Where a test holds after the last of them, the run is past the bound
abbrev pub turns : ℕ → Test → Exec → Exec → Exec
turns zero test body step s = ran_after (test s) (λ wanted s. if wanted then ends ending.Past s else ends ending.Normal s)
turns (suc n) test body step s =
    ran_after (test s) (λ wanted s. if wanted then after_turn (body s) (λ s. then_run (step s) (turns n test body step)) else ends ending.Normal s)

-- C11 6.8.5.1: bound? "while" "(" expression ")" statement
abbrev pub while_run : ℕ → Test → Exec → Exec
while_run bound test body = turns bound test body (ends ending.Normal)

-- C11 6.8.5.2: bound? "do" statement "while" "(" expression ")" ";". No test stands before the first turn
abbrev pub do_run : ℕ → Exec → Test → Exec
do_run zero body test s = ends ending.Past s
do_run (suc n) body test s = after_turn (body s) (turns n test body (ends ending.Normal))

-- C11 6.8.5.3: bound? "for" "(" first ";" expression? ";" step? ")" statement. What the head declares lives to the loop's end
abbrev pub step_where : World → Option TypedStep → Exec
step_where world None = ends ending.Normal
step_where world (Some step) = effect_run world step.effect

abbrev pub first_run : World → TypedFirst → Exec
first_run world first.Nothing = ends ending.Normal
first_run world (first.Objects declared) = in_order (map (declarator_run world) declared)
first_run world (first.Effect effect) = effect_run world effect

abbrev pub declared_by : TypedFirst → List ℕ
declared_by first.Nothing = []
declared_by (first.Objects declared) = map (λ d. d.object) declared
declared_by (first.Effect effect) = []

abbrev pub for_run : ℕ → List ℕ → Exec → Test → Exec → Exec → Exec
for_run bound objects first test step body s = finally (all_ended objects) (then_run (first s) (turns bound test body step))

-- ---- blocks and jumps

-- an item: the objects that it declares
pub record ItemRun : Type 0 where
  pub objects : List ℕ
  pub run : Exec

-- C11 6.8.2: "{" item* "}". What it declares lives to its end
abbrev pub block_run : List ItemRun → Exec
block_run items s = finally (all_ended (flat_map (λ item. item.objects) items)) (in_order (map (λ item. item.run) items) s)

-- C11 6.8.6.4: "return" expression? ";"
abbrev pub return_run : World → Option TypedExpr → Exec
return_run world None s = ends ending.Return (record s { returned = [] })
return_run world (Some value) s = ran_after (evaluates world value s) (λ v s. ends ending.Return (record s { returned = v }))
