-- The guards of the ways to leave a statement, where the inputs are given.
use Rattle.std.specs.Prelude.{ℕ, ◌≤◌, List}
use Rattle.hy_bits.specs.declared.width.Width.TheVariants.{W1}
use Rattle.word_graph.specs.declared.entry.Entry.{Entry}
use Rattle.word_graph.specs.declared.entry.Node.{Node}
use Rattle.word_graph.specs.Meaning.{InputsFit}
use Rattle.word_nodes.specs.Nodes.{Stands, worth}
use Rattle.c_meaning.specs.Statements.{Exec, Test}
use Rattle.exec_state.specs.Leave.{Exits, Runs, either_guard, exits_of_loop, exits_then}
use Rattle.exec_state.specs.Seen.{IsTruth, Picture}
use Rattle.exec_state.specs.Follow.{Follows}
use Rattle.exec_steps.specs.declared.running.Running.{Running}
use Rattle.exec_steps.specs.declared.ways.Ways.{Ways}
use Rattle.exec_steps.specs.Running.{shown}

abbrev pub exits_at : List Entry → List ℕ → Ways → Exits
exits_at es ins w = record {
  normal = worth es ins w.normal;
  breaks = worth es ins w.breaks;
  continues = worth es ins w.continues;
  returns = worth es ins w.returns;
}

pub record WaysStand (es : List Entry) (w : Ways) : Type 0 where
  pub normal : Stands es W1 w.normal
  pub breaks : Stands es W1 w.breaks
  pub continues : Stands es W1 w.continues
  pub returns : Stands es W1 w.returns

-- a statement's execution follows its meaning, under the guard
abbrev pub FollowsRun : Exec → (old new : Running) → Node → Ways → Type 0
FollowsRun run old new guard w =
    (ins : List ℕ) → InputsFit old.graph ins → Runs (worth old.graph ins guard) (shown old ins) (shown new ins) (exits_at new.graph ins w) run

-- ---- statements that are left of a list, and turns of a loop

-- where what is left of the statements follows from here on, under the guard of the normal end, so does the whole from the begin
abbrev pub LeadsOut : (old now : Running) → (guard : Node) → Ways → (left whole : Exec) → Type 0
LeadsOut old now guard w left whole =
    (ins : List ℕ) → InputsFit old.graph ins → (d : Picture) (y : Exits) →
    Runs (worth now.graph ins w.normal) (shown now ins) d y left → Runs (worth old.graph ins guard) (shown old ins) d (exits_then (exits_at now.graph ins w) y) whole

-- where the turns that are left follow from here on, under the guard that is live, so does the whole loop; `returns` has gathered what returned
abbrev pub LeadsRound : (old now : Running) → (guard live returns : Node) → (left whole : Exec) → Type 0
LeadsRound old now guard live returns left whole =
    (ins : List ℕ) → InputsFit old.graph ins → (d : Picture) (r : ℕ) → r ≤ 1 →
    Runs (worth now.graph ins live) (shown now ins) d (exits_of_loop (worth now.graph ins live) r) left →
    Runs (worth old.graph ins guard) (shown old ins) d (exits_of_loop (worth old.graph ins guard) (either_guard (worth now.graph ins returns) r)) whole

-- a test's truth follows, under the guard
abbrev pub FollowsTest : Test → (old new : Running) → (guard : Node) → Node → Type 0
FollowsTest test old new guard n =
    (ins : List ℕ) → InputsFit old.graph ins → Follows (worth old.graph ins guard) (shown old ins) (shown new ins) (IsTruth (worth new.graph ins n)) test
