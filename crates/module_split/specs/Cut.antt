-- The modules of a graph in their order, the nodes that they use and give, and the edges between them.
use Rattle.std.specs.Prelude.{◌==◌, ℕ, Bool, true, false, not, ◌&&◌, ◌||◌, List, [], ◌∷◌, ◌++◌, Option, Some, None, is_some, get_or, length, map, filter, slice_get, if◌then◌else◌}
use Rattle.std.specs.List.{list_all, list_any, filter_map, flat_map, position, range_with_len}
use Rattle.word_graph.specs.declared.entry.Entry.{Entry}
use Rattle.word_graph.specs.declared.entry.Node.{Node}
use Rattle.word_graph.specs.Term.{taken_by}
use Rattle.word_graph.specs.Shape.{constant_at}
use Rattle.module_split.specs.declared.homes.Group.{Group}
use Rattle.module_split.specs.declared.homes.Home.{Home}
use Rattle.module_split.specs.declared.homes.Home.TheVariants.{Input, Constant, Inside}
use Rattle.module_split.specs.declared.module.Class.{Class}
use Rattle.module_split.specs.declared.module.Class.TheVariants.{Arithmetic, Boolean}
use Rattle.module_split.specs.declared.module.Module.{Module}
use Rattle.module_split.specs.declared.module.EdgeWords.{EdgeWords}
use Rattle.module_split.specs.Homes.{groups_of, home_at, homes_of, is_arithmetic, same_bit}
use Rattle.module_split.specs.Pieces.{Pieces}

-- the numbers below n, ascending
abbrev pub below : ℕ → List ℕ
below n = range_with_len 0 n

-- ---- the order of modules: by layer, and in a layer by first node

abbrev pub same_group : Group → Group → Bool
same_group g h = same_bit g.ring h.ring && (g.layer == h.layer && g.region == h.region)

-- the different groups of a list, each where it comes first, after those that came before
unfoldable pub different_after : List Group → List Group → List Group
different_after before [] = before
different_after before (g ∷ gs) = different_after (if list_any (same_group g) before then before else before ++ g ∷ []) gs

-- a node's group, where it is of this layer
abbrev pub group_in : ℕ → Option Group → Option Group
group_in layer None = None
group_in layer (Some g) = if g.layer == layer then Some g else None

-- the groups of the modules
abbrev pub order_of : ℕ → List (Option Group) → List Group
order_of layers groups = different_after [] (flat_map (λ layer. filter_map (group_in layer) groups) (below layers))

-- the number of the module of a group
abbrev pub number_in : List Group → Option Group → Option ℕ
number_in order None = None
number_in order (Some g) = position (same_group g) order

-- the number of each node's module; inputs and constants have none
abbrev pub numbers_of : List Group → List (Option Group) → List (Option ℕ)
numbers_of order groups = map (number_in order) groups

-- ---- nodes and modules

-- the number is m
abbrev pub is_just : Option ℕ → ℕ → Bool
is_just None m = false
is_just (Some k) m = k == m

-- the node at a place lies in module m
abbrev pub is_of : List (Option ℕ) → ℕ → ℕ → Bool
is_of numbers m k = is_just (get_or numbers k None) m

-- the nodes of module m
abbrev pub nodes_of : List (Option ℕ) → ℕ → List ℕ
nodes_of numbers m = filter (is_of numbers m) (below (length numbers))

-- an entry takes the node at a place
abbrev pub entry_takes : Option Entry → ℕ → Bool
entry_takes None k = false
entry_takes (Some e) k = list_any (λ a. a == k) (taken_by e)

-- the nodes that use the node at a place
abbrev pub users_of : List Entry → ℕ → List ℕ
users_of es k = filter (λ user. entry_takes (slice_get es user) k) (below (length es))

-- the node at a place is no constant
abbrev pub is_variable : List Entry → ℕ → Bool
is_variable es k = not (is_some (constant_at es k))

-- module m uses the node at a place, which lies outside of it
abbrev pub crosses_into : List Entry → List (Option ℕ) → ℕ → ℕ → Bool
crosses_into es numbers m k = not (is_of numbers m k) && list_any (is_of numbers m) (users_of es k)

-- what module m uses of outside, but for constants
abbrev pub ins_of : List Entry → List (Option ℕ) → ℕ → List ℕ
ins_of es numbers m = filter (crosses_into es numbers m) (filter (is_variable es) (below (length es)))

-- the node at a place is a result
abbrev pub is_result : List Node → ℕ → Bool
is_result results k = list_any (λ node. node.index == k) results

-- the nodes of module m that are results or are used outside
abbrev pub outs_of : List Entry → List (Option ℕ) → List Node → ℕ → List ℕ
outs_of es numbers results m = filter (λ k. is_result results k || list_any (λ user. not (is_of numbers m user)) (users_of es k)) (nodes_of numbers m)

-- ---- modules

-- the region of a node in a module
abbrev pub region_in : Home → ℕ
region_in Input = 0
region_in Constant = 0
region_in (Inside group) = group.region

-- the layer of a group in the order
abbrev pub layer_in : Option Group → ℕ
layer_in None = 0
layer_in (Some group) = group.layer

-- the class of a module, where this says whether all of its nodes are of the arithmetic one
abbrev pub class_of : Bool → Class
class_of true = Arithmetic
class_of false = Boolean

-- module m: of the arithmetic class where all of its nodes are, with its first node's region
abbrev pub module_of : List Entry → List Home → List Group → List (Option ℕ) → List Node → ℕ → Module
module_of es homes order numbers results m = record {
  class = class_of (list_all (λ k. is_arithmetic (home_at homes k)) (nodes_of numbers m));
  layer = layer_in (slice_get order m);
  region = region_in (home_at homes (get_or (nodes_of numbers m) 0 0));
  nodes = nodes_of numbers m;
  ins = ins_of es numbers m;
  outs = outs_of es numbers results m;
}

-- ---- edges

-- the nodes of module `from` that module `to` uses
abbrev pub words_between : List Entry → List (Option ℕ) → ℕ → ℕ → List ℕ
words_between es numbers to from = filter (crosses_into es numbers to) (nodes_of numbers from)

-- an edge with these words, if there are any
abbrev pub edge_with : ℕ → ℕ → List ℕ → List EdgeWords
edge_with to from [] = []
edge_with to from (k ∷ ks) = record { from = from; to = to; words = k ∷ ks } ∷ []

-- the edges to a module, by the module that they come from
abbrev pub edges_to : List Entry → List (Option ℕ) → ℕ → ℕ → List EdgeWords
edges_to es numbers count to = flat_map (λ from. edge_with to from (words_between es numbers to from)) (below count)

-- ---- the cut

-- the pieces where the nodes have these homes and numbers, and the modules these groups
abbrev pub pieces_of : List Entry → List Node → List Home → List Group → List (Option ℕ) → Pieces
pieces_of es results homes order numbers = record {
  list = map (module_of es homes order numbers results) (below (length order));
  edges = flat_map (edges_to es numbers (length order)) (below (length order));
}

-- the cut of a graph into at most so many layers
abbrev pub cut_of : List Entry → List Node → ℕ → Pieces
cut_of es results layers =
    pieces_of es results (homes_of layers es) (order_of layers (groups_of layers es)) (numbers_of (order_of layers (groups_of layers es)) (groups_of layers es))
