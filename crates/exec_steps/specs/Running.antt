-- A run that is executed: a graph, the cells of all objects, whether a loop has passed its bound, and the value that is returned.
use Rattle.std.specs.Prelude.{◌≡◌, ℕ, ◌<◌, Bool, List, length}
use Rattle.std.specs.List.{All}
use Rattle.hy_bits.specs.declared.width.Width.TheVariants.{W1}
use Rattle.word_graph.specs.declared.entry.Node.{Node}
use Rattle.word_graph.specs.Meaning.{InputsFit}
use Rattle.word_nodes.specs.Nodes.{Stands, worth, Extends}
use Rattle.c_meaning.specs.State.{State}
use Rattle.c_meaning.specs.Expressions.{Eval, Evaluated, Gives, Value, after, of_truth}
use Rattle.c_place.specs.Boards.{IsBoard, layout}
use Rattle.exec_state.specs.Seen.{Picture, IsSeen, IsTruth}
use Rattle.exec_state.specs.Follow.{Follows, Goes, Passes}
use Rattle.exec_values.specs.declared.values.WordValue.{WordValue}
use Rattle.exec_values.specs.Growing.{Grows}
use Rattle.exec_values.specs.Views.{value_cells, picture}
use Rattle.exec_steps.specs.declared.running.Running.{Running}

-- ---- what stands

-- all its nodes stand
pub record IsRunning (r : Running) : Type 0 where
  pub board : IsBoard r.graph r.cells
  pub past : Stands r.graph W1 r.past
  pub returned : All (λ n. n.index < length r.graph) r.returned.items

-- what it shows where the inputs are these words
abbrev pub shown : Running → (inputs : List ℕ) → Picture
shown r ins = picture r.graph ins r.past r.cells r.returned.items

-- only the graph has grown, by nodes of a region
pub record OnlyGrows (region : ℕ) (old new : Running) : Type 0 where
  pub extends : Extends region old.graph new.graph
  pub cells : new.cells ≡ old.cells
  pub past : new.past ≡ old.past
  pub returned : new.returned.items ≡ old.returned.items

-- it has gone on, and the objects have the cells that they had
pub record Continues (regions : ℕ) (old new : Running) : Type 0 where
  pub grows : Grows regions old.graph new.graph
  pub running : IsRunning new
  pub layout : layout new.graph new.cells ≡ layout old.graph old.cells

-- ---- what follows the meaning

-- the value follows an expression's meaning, under the guard
abbrev pub FollowsValue : Eval → (old new : Running) → Node → WordValue → Type 0
FollowsValue run old new guard v =
    (ins : List ℕ) → InputsFit old.graph ins → Follows (worth old.graph ins guard) (shown old ins) (shown new ins) (IsSeen (value_cells new.graph ins v)) run

-- a value that follows a meaning becomes one that follows f of it
abbrev pub Turns : (Eval → Eval) → (old new : Running) → WordValue → WordValue → Type 0
Turns f old new v r =
    (ins : List ℕ) → InputsFit old.graph ins → (g : ℕ) (before : Picture) (run : Eval) →
    Follows g before (shown old ins) (IsSeen (value_cells old.graph ins v)) run → Follows g before (shown new ins) (IsSeen (value_cells new.graph ins r)) (f run)

-- a value becomes the truth whether it holds, or a truth a value
abbrev pub TurnsTruth : (Eval → State → Evaluated Bool) → (old new : Running) → WordValue → Node → Type 0
TurnsTruth f old new v n =
    (ins : List ℕ) → InputsFit old.graph ins → (g : ℕ) (before : Picture) (run : Eval) →
    Follows g before (shown old ins) (IsSeen (value_cells old.graph ins v)) run → Follows g before (shown new ins) (IsTruth (worth new.graph ins n)) (f run)

-- a truth that follows a meaning becomes an int
abbrev pub TurnsBack : (old new : Running) → Node → WordValue → Type 0
TurnsBack old new n r =
    (ins : List ℕ) → InputsFit old.graph ins → (g : ℕ) (before : Picture) (run : State → Evaluated Bool) →
    Follows g before (shown old ins) (IsTruth (worth old.graph ins n)) run → Follows g before (shown new ins) (IsSeen (value_cells new.graph ins r)) (λ s. after (run s) (λ b s. Gives (of_truth b) s))

-- the value on the right of an operator that follows a meaning becomes what f makes of it and of any value that stands on the left
abbrev pub TurnsRight : (Value → Value → Eval) → (old new : Running) → (left right r : WordValue) → Type 0
TurnsRight f old new left right r =
    (ins : List ℕ) → InputsFit old.graph ins → (g : ℕ) (before : Picture) (run : Eval) →
    Follows g before (shown old ins) (IsSeen (value_cells old.graph ins right)) run →
    Passes g before (shown new ins)
    × ((u : Value) → IsSeen (value_cells old.graph ins left) u → Goes g before (shown new ins) (IsSeen (value_cells new.graph ins r)) (λ s. after (run s) (λ x s. f u x s)))
