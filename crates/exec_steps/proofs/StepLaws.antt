-- Steps that only make the graph grow: a value that follows a meaning becomes one that follows what the step says of it.
use Rattle.std.proofs.Common.{◌≡◌, ℕ, Bool, List, [], ◌∷◌, ◌<◌, arith, ap, ◌∙◌, refl, sym, subst}
use Rattle.word_graph.specs.declared.entry.Entry.{Entry}
use Rattle.word_graph.specs.declared.entry.Node.{Node}
use Rattle.word_graph.specs.Meaning.{InputsFit}
use Rattle.word_nodes.specs.Nodes.{worth, Extends}
use Rattle.c_tree.specs.declared.token.Place.{Place}
use Rattle.c_meaning.specs.declared.values.Undefined.{Undefined}
use Rattle.c_meaning.specs.State.{State, flagged_where}
use Rattle.c_meaning.specs.declared.values.Cell.TheVariants as cell
use Rattle.c_meaning.specs.Expressions.{Evaluated, Eval, Gives, Value, after, of_truth}
use Rattle.std.specs.Prelude.{Option, None, Some}
use Rattle.exec_state.specs.Seen.{Picture, Shows, IsSeen, IsTruth}
use Rattle.exec_state.specs.Follow.{Ended, Follows, Goes, Passes}
use Rattle.exec_state.proofs.FollowLaws.{follows_with}
use Rattle.exec_values.specs.declared.values.WordValue.{WordValue}
use Rattle.exec_values.specs.Views.{value_cells}
use Rattle.c_place.proofs.BoardLaws.{IsBoard-later, layout-later}
use Rattle.word_nodes.proofs.NodeLaws.{Extends-length, Extends-then, Stands-later}
use Rattle.hy_bits.specs.declared.width.Width.TheVariants.{W1}
use Rattle.exec_values.proofs.GrowingLaws.{Grows_none, Grows_one, Grows_then, picture_later}
use Rattle.exec_steps.specs.declared.running.Running.{Running}
use Rattle.exec_steps.specs.Running.{Continues, IsRunning, OnlyGrows, shown, Turns, TurnsBack, TurnsRight, TurnsTruth}

-- what is shown stays
pub shown_later : (region : ℕ) (old new : Running) (ins : List ℕ) → IsRunning old → OnlyGrows region old new → shown new ins ≡ shown old ins
shown_later region old new ins is grows =
    rw (grows.past, grows.cells, grows.returned) (picture_later grows.extends ins old.past old.cells old.returned.items is.past.within is.board is.returned)

-- a state that is told something undefined shows the same
pub flagged_shows : (p : Picture) (kind : Option Undefined) (place : Place) (s : State) → Shows p s → Shows p (flagged_where kind place s)
flagged_shows p None place s shows = shows
flagged_shows p (Some kind) place s shows = record { kept = shows.kept; objects = shows.objects }

-- the same run over a graph that has grown
abbrev pub over : Running → List Entry → Running
over old es = record old { graph = es }

only_grows : (region : ℕ) (old : Running) (es : List Entry) → Extends region old.graph es → OnlyGrows region old (over old es)
only_grows region old es f = record { extends = f; cells = refl; past = refl; returned = refl }

module _ (region : ℕ) (old : Running) (es : List Entry) (v : WordValue) (is : IsRunning old) (f : Extends region old.graph es) where
  pub turns_value : (r : WordValue) (next : Value → Eval) →
      ((ins : List ℕ) → InputsFit old.graph ins → (u : Value) (t : State) → IsSeen (value_cells old.graph ins v) u → Shows (shown old ins) t → Ended (shown old ins) (IsSeen (value_cells es ins r)) (next u t)) →
      Turns (λ run s. after (run s) next) old (over old es) v r
  turns_value r next ended ins fit g before run follows =
      subst (λ (p : Picture). Follows g before p (IsSeen (value_cells es ins r)) (λ s. after (run s) next)) (sym (shown_later region old (over old es) ins is (only_grows region old es f)))
      (follows_with g before (shown old ins) (IsSeen (value_cells old.graph ins v)) (IsSeen (value_cells es ins r)) run next follows (ended ins fit))

  pub turns_truth : (n : Node) (next : Value → State → Evaluated Bool) →
      ((ins : List ℕ) → InputsFit old.graph ins → (u : Value) (t : State) → IsSeen (value_cells old.graph ins v) u → Shows (shown old ins) t → Ended (shown old ins) (IsTruth (worth es ins n)) (next u t)) →
      TurnsTruth (λ run s. after (run s) next) old (over old es) v n
  turns_truth n next ended ins fit g before run follows =
      subst (λ (p : Picture). Follows g before p (IsTruth (worth es ins n)) (λ s. after (run s) next)) (sym (shown_later region old (over old es) ins is (only_grows region old es f)))
      (follows_with g before (shown old ins) (IsSeen (value_cells old.graph ins v)) (IsTruth (worth es ins n)) run next follows (ended ins fit))

pub turns_back : (region : ℕ) (old : Running) (es : List Entry) → IsRunning old → Extends region old.graph es → (n : Node) (r : WordValue) → ((ins : List ℕ) → InputsFit old.graph ins → value_cells es ins r ≡ cell.Int (worth old.graph ins n) ∷ []) → TurnsBack old (over old es) n r
turns_back region old es is f n r same ins fit g before run follows =
    subst (λ (p : Picture). Follows g before p (IsSeen (value_cells es ins r)) (λ s. after (run s) (λ b s. Gives (of_truth b) s))) (sym (shown_later region old (over old es) ins is (only_grows region old es f)))
    (follows_with g before (shown old ins) (IsTruth (worth old.graph ins n)) (IsSeen (value_cells es ins r)) run (λ b s. Gives (of_truth b) s) follows (λ b t is_b shows. (shows, same ins fit ∙ ap (λ (x : ℕ). cell.Int x ∷ []) is_b)))

-- ---- runs that go on

pub running_later : (region : ℕ) (old new : Running) → IsRunning old → OnlyGrows region old new → IsRunning new
running_later region old new is grows = record {
  board = rw grows.cells (IsBoard-later grows.extends old.cells is.board);
  past = rw grows.past (Stands-later grows.extends W1 old.past is.past);
  returned = rw grows.returned (λ k d h. omega (arith, is.returned k d h, Extends-length grows.extends));
}

pub continues_grows : (regions region : ℕ) (old new : Running) → region < regions → IsRunning old → OnlyGrows region old new → Continues regions old new
continues_grows regions region old new h is grows = record {
  grows = Grows_one regions region old.graph new.graph h grows.extends;
  running = running_later region old new is grows;
  layout = rw grows.cells (layout-later grows.extends old.cells is.board);
}

pub continues_none : (regions : ℕ) (old : Running) → IsRunning old → Continues regions old old
continues_none regions old is = record { grows = Grows_none regions old.graph; running = is; layout = refl }

pub continues_then : (regions : ℕ) (old mid new : Running) → Continues regions old mid → Continues regions mid new → Continues regions old new
continues_then regions old mid new first second = record {
  grows = Grows_then regions old.graph mid.graph new.graph first.grows second.grows;
  running = second.running;
  layout = second.layout ∙ first.layout;
}

-- a step after what has gone on
pub continues_on : (regions region : ℕ) (old mid new : Running) → region < regions → Continues regions old mid → OnlyGrows region mid new → Continues regions old new
continues_on regions region old mid new h first grows = continues_then regions old mid new first (continues_grows regions region mid new h first.running grows)

pub only_then : (region : ℕ) (old mid new : Running) → OnlyGrows region old mid → OnlyGrows region mid new → OnlyGrows region old new
only_then region old mid new first second = record {
  extends = Extends-then region old.graph mid.graph new.graph first.extends second.extends;
  cells = second.cells ∙ first.cells;
  past = second.past ∙ first.past;
  returned = second.returned ∙ first.returned;
}

pub turns_right : (region : ℕ) (old : Running) (es : List Entry) → IsRunning old → Extends region old.graph es → (left right r : WordValue) (f : Value → Value → Eval) →
    ((ins : List ℕ) → InputsFit old.graph ins → (u x : Value) (t : State) → IsSeen (value_cells old.graph ins left) u → IsSeen (value_cells old.graph ins right) x → Shows (shown old ins) t → Ended (shown old ins) (IsSeen (value_cells es ins r)) (f u x t)) →
    TurnsRight f old (over old es) left right r
turns_right region old es is grows left right r f ended ins fit g before run follows =
    let still = shown_later region old (over old es) ins is (only_grows region old es grows) in (
      subst (λ (p : Picture). Passes g before p) (sym still) follows.0,
      λ u seen_u. subst (λ (p : Picture). Goes g before p (IsSeen (value_cells es ins r)) (λ s. after (run s) (λ x s. f u x s))) (sym still)
          (follows_with g before (shown old ins) (IsSeen (value_cells old.graph ins right)) (IsSeen (value_cells es ins r)) run (λ x s. f u x s) follows (λ x t seen_x shows. ended ins fit u x t seen_u seen_x shows)).1,
    )
