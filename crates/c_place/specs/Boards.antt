-- Objects as nodes: their cells, their layout, and what they hold where the inputs are given.
use Rattle.std.specs.Prelude.{◌≡◌, ℕ, ◌+◌, ◌*◌, ◌<◌, ◌≤◌, List, [], ◌∷◌, Option, None, Some, map, get_or, slice_get, length}
use Rattle.std.specs.List.{All}
use Rattle.hy_bits.specs.declared.width.Width.{Width}
use Rattle.hy_bits.specs.declared.width.Width.TheVariants.{W1, W8, W16, W32, W64}
use Rattle.word_graph.specs.declared.entry.Entry.{Entry}
use Rattle.word_graph.specs.declared.entry.Node.{Node}
use Rattle.word_graph.specs.Meaning.{InputsFit}
use Rattle.word_graph.specs.Term.{width_at}
use Rattle.word_nodes.specs.Nodes.{Stands, worth}
use Rattle.c_meaning.specs.declared.values.Cell.{Cell}
use Rattle.c_meaning.specs.declared.values.Cell.TheVariants as cell
use Rattle.c_meaning.specs.State.{cell_of}
use Rattle.c_place.specs.declared.targets.Target.{Target}
use Rattle.c_place.specs.declared.targets.Targets.{Targets}
use Rattle.c_place.specs.declared.cells.Held.{Held}
use Rattle.c_place.specs.declared.cells.Held.TheVariants as held
use Rattle.c_place.specs.declared.cells.Board.{Board}
use Rattle.c_place.specs.Aims.{address, IsPointer}

-- ---- layouts

-- for each object the widths of its cells, or nothing where it is a pointer
abbrev pub Layout : Type 0
Layout = List (Option (List Width))

-- the widths of nodes
abbrev pub widths_at : List Entry → List Node → List Width
widths_at es nodes = map (λ n. width_at es n.index) nodes

abbrev pub held_layout : List Entry → Held → Option (List Width)
held_layout es (held.Words nodes) = Some (widths_at es nodes.items)
held_layout es (held.Pointer targets) = None

abbrev pub layout : List Entry → Board → Layout
layout es board = map (held_layout es) board.objects.items

-- the target lies within an object that is no pointer
abbrev pub LiesIn : Layout → Target → Type 0
LiesIn layout t = (widths : List Width) × (get_or layout t.object None ≡ Some widths) × (t.first + t.length * t.size ≤ length widths)

-- ---- boards

abbrev pub HeldFits : List Entry → Layout → Held → Type 0
HeldFits es layout (held.Words nodes) = All (λ n. n.index < length es) nodes.items
HeldFits es layout (held.Pointer targets) = IsPointer es targets × All (LiesIn layout) targets.list.items

-- the node is 0 for all inputs
pub record IsZero (es : List Entry) (w : Width) (n : Node) : Type 0 where
  pub stands : Stands es w n
  pub zero : (ins : List ℕ) → InputsFit es ins → worth es ins n ≡ 0

-- all nodes of the objects stand, and what pointers point to lies within objects
pub record IsBoard (es : List Entry) (board : Board) : Type 0 where
  pub objects : All (HeldFits es (layout es board)) board.objects.items
  pub w1 : IsZero es W1 board.zeros.w1
  pub w8 : IsZero es W8 board.zeros.w8
  pub w16 : IsZero es W16 board.zeros.w16
  pub w32 : IsZero es W32 board.zeros.w32
  pub w64 : IsZero es W64 board.zeros.w64

-- ---- nodes of objects

abbrev pub nodes_in : Option Held → List Node
nodes_in None = []
nodes_in (Some (held.Words nodes)) = nodes.items
nodes_in (Some (held.Pointer targets)) = []

-- the nodes of an object's cells, of which a pointer has none
abbrev pub nodes_of : Board → ℕ → List Node
nodes_of board k = nodes_in (slice_get board.objects.items k)

-- the pointer that an object is, where it is one
abbrev pub pointer_in : Option Held → Option Targets
pointer_in None = None
pointer_in (Some (held.Words nodes)) = None
pointer_in (Some (held.Pointer targets)) = Some targets

abbrev pub pointer_at : Board → ℕ → Option Targets
pointer_at board k = pointer_in (slice_get board.objects.items k)

abbrev pub list_in : Option Targets → List Target
list_in None = []
list_in (Some p) = p.list.items

-- the targets of a pointer object
abbrev pub targets_at : Board → ℕ → List Target
targets_at board k = list_in (pointer_at board k)

-- the zero of a width
abbrev pub zero_of : Board → Width → Node
zero_of board W1 = board.zeros.w1
zero_of board W8 = board.zeros.w8
zero_of board W16 = board.zeros.w16
zero_of board W32 = board.zeros.w32
zero_of board W64 = board.zeros.w64

-- ---- what objects hold where the inputs are these words. A cell that is unset is 0 or null

abbrev pub cells_held : List Entry → List ℕ → Held → List Cell
cells_held es ins (held.Words nodes) = map (λ n. cell.Int (worth es ins n)) nodes.items
cells_held es ins (held.Pointer targets) = cell_of (address es ins targets) ∷ []

abbrev pub objects_held : List Entry → List ℕ → Board → List (List Cell)
objects_held es ins board = map (cells_held es ins) board.objects.items
