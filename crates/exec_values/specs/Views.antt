-- What values of words stand for where the inputs are given, and which nodes they have.
use Rattle.std.specs.Prelude.{ℕ, ◌<◌, List, [], ◌∷◌, Option, None, Some, map, length, pos}
use Rattle.std.specs.List.{All}
use Rattle.word_graph.specs.declared.entry.Entry.{Entry}
use Rattle.word_graph.specs.declared.entry.Node.{Node}
use Rattle.word_nodes.specs.Nodes.{worth, worths}
use Rattle.c_meaning.specs.declared.values.Cell.{Cell}
use Rattle.c_meaning.specs.declared.values.Cell.TheVariants as cell
use Rattle.c_meaning.specs.State.{Address, cell_of}
use Rattle.c_place.specs.declared.cells.Board.{Board}
use Rattle.c_place.specs.Aims.{IsPointer, address}
use Rattle.c_place.specs.Boards.{objects_held}
use Rattle.exec_state.specs.Seen.{Picture, seen}
use Rattle.exec_state.specs.Access as access
use Rattle.exec_values.specs.declared.values.Cut.{Cut}
use Rattle.exec_values.specs.declared.values.Located.{Located}
use Rattle.exec_values.specs.declared.values.Located.TheVariants as located
use Rattle.exec_values.specs.declared.values.WordValue.{WordValue}
use Rattle.exec_values.specs.declared.values.WordValue.TheVariants as value

-- ---- values

abbrev pub of_words : List ℕ → List Cell
of_words words = map (λ w. cell.Int w) words

-- the cells of a value
abbrev pub value_cells : List Entry → List ℕ → WordValue → List Cell
value_cells es ins value.Nothing = []
value_cells es ins (value.Word n) = cell.Int (worth es ins n) ∷ []
value_cells es ins (value.Struct ns) = of_words (worths es ins ns.items)
value_cells es ins (value.Pointer p) = seen (cell_of (address es ins p)) ∷ []

-- its nodes stand
abbrev pub ValueStands : List Entry → WordValue → Type 0
ValueStands es value.Nothing = Unit {0}
ValueStands es (value.Word n) = n.index < length es
ValueStands es (value.Struct ns) = All (λ n. n.index < length es) ns.items
ValueStands es (value.Pointer p) = IsPointer es p

-- ---- what lvalues designate

abbrev pub cut_of : Option Cut → Option access.Cut
cut_of None = None
cut_of (Some cut) = Some (record { offset = cut.offset; cells = cut.cells })

abbrev pub offset_of : Option Cut → ℕ
offset_of None = 0
offset_of (Some cut) = cut.offset

-- the address of what is designated
abbrev pub located_address : List Entry → List ℕ → Located → Address
located_address es ins (located.Pointer k) = Some (record { object = k; first = 0; size = 1; length = 1; index = pos 0; life = 0 })
located_address es ins (located.Words to part) = access.designated (address es ins to) (cut_of part)

-- ---- pictures

-- what the words hold
abbrev pub picture : List Entry → List ℕ → (past : Node) → Board → (returned : List Node) → Picture
picture es ins past board returned = record {
  past = worth es ins past;
  objects = map (map seen) (objects_held es ins board);
  returned = of_words (worths es ins returned);
}
