-- What the passes over a graph add.
use Rattle.std.specs.Prelude.{◌≡◌, ◌≢◌, ◌==◌, ℕ, ◌<◌, Bool, false, not, ◌&&◌, ◌||◌, List, [], ◌∷◌, ◌++◌, Option, Some, None, length, get_or, unwrap_or, if◌then◌else◌}
use Rattle.std.specs.List.{flat_map, list_all, list_any}
use Rattle.word_graph.specs.declared.entry.Entry.{Entry}
use Rattle.word_graph.specs.Term.{taken_by}
use Rattle.module_split.specs.Lists.{at, ends_with}
use Rattle.module_split.specs.Cut.{below, class_of, edge_with, is_just, is_of, nodes_of, region_in, users_of}
use Rattle.module_split.specs.declared.homes.Group.{Group}
use Rattle.module_split.specs.declared.homes.Home.{Home}
use Rattle.module_split.specs.declared.module.Module.{Module}
use Rattle.module_split.specs.declared.module.EdgeWords.{EdgeWords}
use Rattle.module_split.specs.Homes.{home_at, is_arithmetic}

-- the number of the module of the node at a place
abbrev pub number_at : List (Option ℕ) → ℕ → Option ℕ
number_at numbers k = get_or numbers k None

-- the group of the node at a place
abbrev pub group_at : List (Option Group) → ℕ → Option Group
group_at groups k = get_or groups k None

-- the layer of a group, if there is one
abbrev pub layer_number : Option Group → Option ℕ
layer_number None = None
layer_number (Some group) = Some group.layer

-- the number, if there is one, is below this
abbrev pub IsBelow : ℕ → Option ℕ → Type 0
IsBelow count None = Unit {0}
IsBelow count (Some m) = m < count

-- no two are equal
abbrev pub IsDistinct : List ℕ → Type 0
IsDistinct ks = (i j : ℕ) → i < j → j < length ks → get_or ks i 0 ≢ get_or ks j 0

-- xs with k at its end, where this is so
abbrev pub and_then : List ℕ → Bool → ℕ → List ℕ
and_then xs b k = xs ++ (if b then k ∷ [] else [])

-- the lists of users of each node
pub record AreUsers (es : List Entry) (users : List (List ℕ)) : Type 0 where
  pub count : length users ≡ length es
  pub each : (k : ℕ) → k < length es → at users k ≡ users_of es k

-- the user is added to the users of each node that it takes, where all others are lower
pub record AddsUser (old new : List (List ℕ)) (e : Entry) (user : ℕ) : Type 0 where
  pub count : length new ≡ length old
  pub each : (k : ℕ) → ends_with (at old k) user ≡ false → at new k ≡ and_then (at old k) (list_any (λ a. a == k) (taken_by e)) user

-- the module of a user, where it is not the node's own
abbrev pub other_than : Option ℕ → Option ℕ → Option ℕ
other_than own None = None
other_than own (Some m) = if is_just own m then None else Some m

-- module m has one of the users, and not the node at place k
abbrev pub crosses_by : List (Option ℕ) → List ℕ → ℕ → ℕ → Bool
crosses_by numbers users k m = not (is_of numbers m k) && list_any (is_of numbers m) users

-- the same where the lists of users of all nodes are given
abbrev pub crosses_in : List (List ℕ) → List (Option ℕ) → ℕ → ℕ → Bool
crosses_in users numbers m k = crosses_by numbers (at users k) k m

-- the node at place k is added to the list of each module that it crosses into
pub record AddsCrossing (old new : List (List ℕ)) (numbers : List (Option ℕ)) (users : List ℕ) (k : ℕ) : Type 0 where
  pub count : length new ≡ length old
  pub each : (m : ℕ) → ends_with (at old m) k ≡ false → at new m ≡ and_then (at old m) (crosses_by numbers users k m) k

-- a module of these nodes
abbrev pub module_with : List Home → ℕ → (nodes ins outs : List ℕ) → Module
module_with homes layer nodes ins outs = record {
  class = class_of (list_all (λ k. is_arithmetic (home_at homes k)) nodes);
  layer = layer;
  region = region_in (home_at homes (get_or nodes 0 0));
  nodes = nodes;
  ins = ins;
  outs = outs;
}

-- the number of the module of a node that lies in one
abbrev pub module_number : List (Option ℕ) → ℕ → ℕ
module_number numbers k = unwrap_or (number_at numbers k) 0

-- the edges to a module, where a run of nodes of one module makes an edge: these words are before, of the module `from`
unfoldable pub groups_words : List (Option ℕ) → ℕ → ℕ → List ℕ → List ℕ → List EdgeWords
groups_words numbers to from words [] = edge_with to from words
groups_words numbers to from words (k ∷ ks) =
    if module_number numbers k == from then groups_words numbers to from (words ++ k ∷ []) ks
    else edge_with to from words ++ groups_words numbers to (module_number numbers k) (k ∷ []) ks

-- the nodes of all modules, module by module
abbrev pub places_of_modules : List (Option ℕ) → ℕ → List ℕ
places_of_modules numbers count = flat_map (nodes_of numbers) (below count)

-- a node of module m is a result or is used outside, where the wanted nodes and the users of all nodes are given
abbrev pub is_out : List Bool → List (List ℕ) → List (Option ℕ) → ℕ → ℕ → Bool
is_out wanted users numbers m k = get_or wanted k false || list_any (λ user. not (is_of numbers m user)) (at users k)
