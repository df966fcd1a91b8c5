-- A walk over a program's text, in the order of the text and from the parts to the whole: either it passes with what it finds and what is
-- declared after it, or it breaks at the first rule that doesn't hold.
use Rattle.std.specs.Prelude.{◌≡◌, Option, None, Some, Result, Ok, Err, List, [], ◌∷◌}
use Rattle.c_tree.specs.declared.token.Place.{Place}
use Rattle.c_conversions.specs.declared.fault.TypeKind.{TypeKind}
use Rattle.c_conversions.specs.declared.fault.TypeKind.TheVariants.{Memory}
use Rattle.c_conversions.specs.declared.fault.TypeFault.{TypeFault}
use Rattle.c_typing.specs.declared.environment.Environment.{Environment}

pub data Checked (A : Type 0) : Type 0 where
  Breaks : TypeKind → Place → Checked A
  Passes : A → Environment → Checked A

abbrev pub Walk : Type 0 → Type 0
Walk A = Environment → Checked A

abbrev pub after : {A B : Type 0} → Checked A → (A → Walk B) → Checked B
after (Breaks kind place) next = Breaks kind place
after (Passes a env) next = next a env

abbrev pub gives : {A : Type 0} → A → Walk A
gives a env = Passes a env

abbrev pub breaks : {A : Type 0} → TypeKind → Place → Walk A
breaks kind place env = Breaks kind place

-- a rule that is broken in its own way
abbrev pub unless : {A B : Type 0} → Place → Result A TypeKind → (A → Walk B) → Walk B
unless place (Err kind) next env = Breaks kind place
unless place (Ok a) next env = next a env

abbrev pub unless_none : {A B : Type 0} → TypeKind → Place → Option A → (A → Walk B) → Walk B
unless_none kind place None next env = Breaks kind place
unless_none kind place (Some a) next env = next a env

-- walks one after another
abbrev pub each : {A : Type 0} → List (Walk A) → Walk (List A)
each [] env = Passes [] env
each (walk ∷ walks) env = after (walk env) (λ a env. after (each walks env) (λ rest env. Passes (a ∷ rest) env))

-- a value that goes through walks one after another
abbrev pub along : {A : Type 0} → List (A → Walk A) → A → Walk A
along [] a env = Passes a env
along (walk ∷ walks) a env = after (walk a env) (λ b env. along walks b env)

-- ---- what the code answers

-- the first rule that is broken. Where memory ran out nothing is told
abbrev pub tells_fault : {A : Type 0} → TypeKind → Place → Checked A → Type 0
tells_fault Memory place checked = Unit {0}
tells_fault kind place checked = checked ≡ Breaks kind place

-- an answer, with what is declared after it
abbrev pub Tells : {A : Type 0} → Result A TypeFault → Environment → Checked A → Type 0
Tells (Ok a) env checked = checked ≡ Passes a env
Tells (Err fault) env checked = tells_fault fault.kind fault.place checked
