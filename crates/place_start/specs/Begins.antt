-- What the steps ask for that make the objects of a run's begin, and what they leave.
use Rattle.std.specs.Prelude.{◌≡◌, ℕ, ◌+◌, ◌*◌, ◌≤◌, Bool, true, false, List, [], ◌∷◌, Option, None, Some, length, map, set, take, drop, get_or, slice_get, replicate}
use Rattle.hy_bits.specs.declared.width.Width.{Width}
use Rattle.hy_bits.specs.declared.width.Width.TheVariants.{W1, W8, W16, W32, W64}
use Rattle.word_graph.specs.declared.entry.Entry.{Entry}
use Rattle.word_graph.specs.declared.entry.Node.{Node}
use Rattle.word_graph.specs.Meaning.{InputsFit}
use Rattle.word_nodes.specs.Nodes.{AllStand, Stands, worth}
use Rattle.node_lists.specs.Lists.{AreWords}
use Rattle.c_meaning.specs.declared.types.Object.{Object}
use Rattle.c_meaning.specs.declared.types.StructType.{StructType}
use Rattle.c_meaning.specs.declared.values.Cell.TheVariants as cell
use Rattle.c_meaning.specs.SizeFolds.{is_pointer}
use Rattle.c_meaning.specs.Types.{kind_of}
use Rattle.cell_widths.specs.Widths.{widths_of}
use Rattle.c_place.specs.declared.cells.Held.{Held}
use Rattle.c_place.specs.declared.cells.Held.TheVariants as held
use Rattle.c_place.specs.declared.cells.Zeros.{Zeros}
use Rattle.c_place.specs.declared.targets.Place.{Place}
use Rattle.c_place.specs.declared.targets.Target.{Target}
use Rattle.c_place.specs.declared.targets.Targets.{Targets}
use Rattle.c_place.specs.Boards.{IsZero, Layout}
use Rattle.place_start.specs.declared.arguments.Argument.{Argument}
use Rattle.place_start.specs.Starts.{start_held}

-- ---- nodes that are constants

pub record IsOne (es : List Entry) (n : Node) : Type 0 where
  pub stands : Stands es W1 n
  pub one : (ins : List ℕ) → InputsFit es ins → worth es ins n ≡ 1

pub record AreZeros (es : List Entry) (zeros : Zeros) : Type 0 where
  pub w1 : IsZero es W1 zeros.w1
  pub w8 : IsZero es W8 zeros.w8
  pub w16 : IsZero es W16 zeros.w16
  pub w32 : IsZero es W32 zeros.w32
  pub w64 : IsZero es W64 zeros.w64

-- ---- objects before `mpc_main` has its arguments

-- the words of the initializer, or zeros
abbrev pub start_words : ℕ → Option (List ℕ) → List ℕ
start_words cells None = replicate cells 0
start_words cells (Some words) = words

-- a word of its width in each cell; a pointer has one, which is null
pub record StartsWell (structs : List StructType) (object : Object) : Type 0 where
  pub words : is_pointer (kind_of object.ctype) ≡ false → AreWords (widths_of structs object.ctype) (start_words object.cells object.start)
  pub cells : is_pointer (kind_of object.ctype) ≡ false → length (widths_of structs object.ctype) ≡ object.cells
  pub pointer : is_pointer (kind_of object.ctype) ≡ true → start_held object ≡ cell.Null ∷ []

-- ---- parameters that get their words

-- what is pointed to lies within the words, and the parameter is a pointer
abbrev pub PlaceFits : Layout → Argument → Option Place → Type 0
PlaceFits l a None = Unit {0}
PlaceFits l a (Some place) = (place.object ≡ a.object) × (place.first + place.length * place.size ≤ a.cells) × (slice_get l a.parameter ≡ Some None)

-- the words stand, with the widths of the object that gets them
pub record ArgumentFits (es : List Entry) (l : Layout) (a : Argument) (words : List Node) : Type 0 where
  pub widths : List Width
  pub object : slice_get l a.object ≡ Some (Some widths)
  pub cells : length widths ≡ a.cells
  pub stand : AllStand es widths (take a.cells words)
  pub parameter : (o : Option (List Width)) × (slice_get l a.parameter ≡ Some o)
  pub place : PlaceFits l a a.points_to

-- of all parameters, one after another
abbrev pub Enters : List Entry → Layout → List Argument → List Node → Type 0
Enters es l [] words = Unit {0}
Enters es l (a ∷ more) words = ArgumentFits es l a words × Enters es l more (drop a.cells words)

-- the pointer to the first element, whose guard is `one` and whose index is 0
abbrev pub first_target : Node → Zeros → Place → Target
first_target one zeros place = record { guard = one; object = place.object; first = place.first; size = place.size; length = place.length; index = zeros.w64 }

abbrev pub PointerEnters : Node → Zeros → ℕ → Option Place → (mid new : List Held) → Type 0
PointerEnters one zeros k None mid new = new ≡ mid
PointerEnters one zeros k (Some place) mid new =
    (p : Targets) × (p.null ≡ zeros.w1) × (p.list.items ≡ first_target one zeros place ∷ []) × (new ≡ set mid k (held.Pointer p))

-- the nodes are what the object holds
abbrev pub Holds : Held → List Node → Type 0
Holds (held.Words cells) nodes = cells.items ≡ nodes
Holds (held.Pointer p) nodes = ⊥

-- the object has the words, and the parameter points to it if it is a pointer
abbrev pub IsEntered : Argument → List Node → Node → Zeros → (old new : List Held) → Type 0
IsEntered a words one zeros old new = (h : Held) × Holds h words × PointerEnters one zeros a.parameter a.points_to (set old a.object h) new
