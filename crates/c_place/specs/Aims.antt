-- What pointers stand for where the inputs are given (C11 6.5.2.1, 6.5.6): lists of targets, of which at most one is there.
use Rattle.std.specs.Prelude.{◌≡◌, ℕ, ◌+◌, ◌*◌, ◌%◌, ◌^◌, ◌==◌, ◌&&◌, Bool, if◌then◌else◌, nat_lt, ◌≢◌, ◌<◌, ◌⊎◌, List, [], ◌∷◌, length, map, slice_get, Some, None}
use Rattle.std.specs.List.{All, Contains}
use Rattle.hy_bits.specs.Words.{signed}
use Rattle.hy_bits.specs.declared.width.Width.TheVariants.{W1, W64}
use Rattle.word_graph.specs.declared.entry.Entry.{Entry}
use Rattle.word_graph.specs.Meaning.{InputsFit}
use Rattle.word_nodes.specs.Nodes.{Stands, worth}
use Rattle.c_meaning.specs.declared.values.Pointer.{Pointer}
use Rattle.c_meaning.specs.State.{Address}
use Rattle.c_place.specs.declared.targets.Place.{Place}
use Rattle.c_place.specs.declared.targets.Target.{Target}
use Rattle.c_place.specs.declared.targets.Targets.{Targets}

-- a target where the inputs are given: `guard` is 1 where the pointer is there, and `index` a word of 64 bits
pub record Aim : Type 0 where
  pub guard : ℕ
  pub object : ℕ
  pub first : ℕ
  pub size : ℕ
  pub length : ℕ
  pub index : ℕ

-- its pointer. Numbers of lives have no part in values, so this one has life 0
abbrev pub pointer_of : Aim → Pointer
pointer_of a = record { object = a.object; first = a.first; size = a.size; length = a.length; index = signed (2 ^ 64) a.index; life = 0 }

-- what the targets stand for: the pointer of the one whose guard is 1, or a null pointer
abbrev pub aimed_at : List Aim → Address
aimed_at [] = None
aimed_at (a ∷ more) = if a.guard == 1 then Some (pointer_of a) else aimed_at more

-- how many guards are 1
abbrev pub aims_there : List Aim → ℕ
aims_there [] = 0
aims_there (a ∷ more) = a.guard + aims_there more

-- the pointer is there, and points to an element
abbrev pub is_hit : Aim → Bool
is_hit a = (a.guard == 1) && nat_lt a.index a.length

-- ---- equality (C11 6.5.9p6): the object and the cell that a pointer goes by, 0 where it is null

-- the cell of the element, by numbers modulo 2^64
abbrev pub number_of_cell : Aim → ℕ
number_of_cell a = (a.first + a.index * a.size) % 2 ^ 64

abbrev pub coded_object : ℕ → List Aim → ℕ
coded_object r [] = r
coded_object r (a ∷ more) = coded_object (if a.guard == 1 then a.object else r) more

abbrev pub coded_cell : ℕ → List Aim → ℕ
coded_cell r [] = r
coded_cell r (a ∷ more) = coded_cell (if a.guard == 1 then number_of_cell a else r) more

-- the most gates of the product of an index and a size, which is wanted for sizes above 1
abbrev pub product_size : Target → ℕ
product_size t = if nat_lt 1 t.size then 36352 else 0

abbrev pub product_sizes : List Target → ℕ
product_sizes [] = 0
product_sizes (t ∷ ts) = product_size t + product_sizes ts

-- ---- targets of a graph

abbrev pub aim : List Entry → List ℕ → Target → Aim
aim es ins t = record { guard = worth es ins t.guard; object = t.object; first = t.first; size = t.size; length = t.length; index = worth es ins t.index }

abbrev pub aims : List Entry → List ℕ → List Target → List Aim
aims es ins ts = map (aim es ins) ts

-- what the pointer stands for where the inputs are these words
abbrev pub address : List Entry → List ℕ → Targets → Address
address es ins targets = aimed_at (aims es ins targets.list.items)

-- the nodes of a target stand: its guard is one bit wide, and its index has 64 bits
pub record IsTarget (es : List Entry) (t : Target) : Type 0 where
  pub guard : Stands es W1 t.guard
  pub index : Stands es W64 t.index

-- and for all inputs the pointer is null, or exactly one target is there
pub record IsPointer (es : List Entry) (p : Targets) : Type 0 where
  pub null : Stands es W1 p.null
  pub targets : All (IsTarget es) p.list.items
  pub one : (ins : List ℕ) → InputsFit es ins → worth es ins p.null + aims_there (aims es ins p.list.items) ≡ 1

-- ---- places

-- the place of a target, whatever its guard and its index are
abbrev pub place_of : Target → Place
place_of t = record { object = t.object; first = t.first; size = t.size; length = t.length }

abbrev pub places_of : List Target → List Place
places_of ts = map place_of ts

-- no place is named twice
abbrev pub AreApart : List Place → Type 0
AreApart ps = (i j : ℕ) → i < j → j < length ps → slice_get ps i ≢ slice_get ps j

-- the target has a place of one of two lists
abbrev pub IsPlacedIn : List Target → List Target → Target → Type 0
IsPlacedIn xs ys t = Contains (places_of xs) (place_of t) ⊎ Contains (places_of ys) (place_of t)
