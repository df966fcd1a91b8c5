-- What the tests' pointers are.
use Rattle.std.specs.Prelude.{◌≡◌, ℕ, List, [], ◌∷◌, Option, None, Some}
use Rattle.hy_bits.specs.declared.width.Width.TheVariants.{W1}
use Rattle.word_graph.specs.declared.entry.Entry.{Entry}
use Rattle.word_graph.specs.declared.entry.Node.{Node}
use Rattle.word_graph.specs.Meaning.{InputsFit}
use Rattle.word_nodes.specs.Nodes.{Stands, worth}
use Rattle.c_place.specs.declared.targets.Place.{Place}
use Rattle.c_place.specs.declared.targets.Targets.{Targets}

-- the bits 0 and 1, for all inputs
pub record AreTruths (es : List Entry) (low high : Node) : Type 0 where
  pub no : Stands es W1 low
  pub yes : Stands es W1 high
  pub off : (ins : List ℕ) → InputsFit es ins → worth es ins low ≡ 0
  pub on : (ins : List ℕ) → InputsFit es ins → worth es ins high ≡ 1

-- the only target, if there is one
abbrev pub IsPointerTo : Option Place → Node → Node → Targets → Type 0
IsPointerTo None guard index p = p.list.items ≡ []
IsPointerTo (Some place) guard index p =
    p.list.items ≡ record { guard = guard; object = place.object; first = place.first; size = place.size; length = place.length; index = index } ∷ []
