-- What values, places and pictures keep while a graph grows.
use Rattle.std.proofs.Common.{◌≡◌, ℕ, zero, suc, ◌<◌, List, [], ◌∷◌, ◌++◌, length, map, refl, sym, ap, ◌∙◌, subst, arith}
use Rattle.std.specs.List.{All}
use Rattle.hy_bits.specs.declared.width.Width.{Width}
use Rattle.word_graph.specs.declared.entry.Entry.{Entry}
use Rattle.word_graph.specs.declared.entry.Node.{Node}
use Rattle.word_graph.specs.Meaning.{InputsFit}
use Rattle.word_nodes.specs.Nodes.{Extends, Stands, worth, worths}
use Rattle.word_nodes.proofs.NodeLaws.{Extends-inputs, Extends-length, Stands-later, worth-later}
use Rattle.c_meaning.specs.declared.values.Cell.{Cell}
use Rattle.c_meaning.specs.declared.values.Cell.TheVariants as cell
use Rattle.c_meaning.specs.State.{Address, cell_of}
use Rattle.c_place.specs.declared.targets.Targets.{Targets}
use Rattle.c_place.specs.declared.cells.Board.{Board}
use Rattle.c_place.specs.Aims.{IsPointer, address, aimed_at}
use Rattle.c_place.specs.Boards.{IsBoard, objects_held}
use Rattle.c_place.proofs.BoardLaws.{IsPointer-later, aims-later, objects_held-later}
use Rattle.exec_state.specs.Seen.{seen}
use Rattle.exec_values.specs.declared.values.WordValue.{WordValue}
use Rattle.exec_values.specs.declared.values.WordValue.TheVariants as value
use Rattle.exec_values.specs.Growing.{Step, GrownBy, Grows}
use Rattle.exec_values.specs.Views.{of_words, value_cells, ValueStands, picture}

-- ---- one step

module _ {region : ℕ} {old new : List Entry} (f : Extends region old new) where
  pub worths_later : (ins : List ℕ) (ns : List Node) → All (λ (n : Node). n.index < length old) ns → worths new ins ns ≡ worths old ins ns
  worths_later ins [] h = refl
  worths_later ins (n ∷ ns) h =
      ap (λ (x : ℕ). x ∷ worths new ins ns) (worth-later f ins n (h zero n (omega arith)))
      ∙ ap (λ (xs : List ℕ). worth old ins n ∷ xs) (worths_later ins ns (λ k d j. h (suc k) d (omega arith)))

  pub address_later : (ins : List ℕ) (p : Targets) → IsPointer old p → address new ins p ≡ address old ins p
  address_later ins p is = ap aimed_at (aims-later f ins p.list.items is.targets)

  pub value_later : (ins : List ℕ) (v : WordValue) → ValueStands old v → value_cells new ins v ≡ value_cells old ins v
  value_later ins value.Nothing h = refl
  value_later ins (value.Word n) h = ap (λ (x : ℕ). cell.Int x ∷ []) (worth-later f ins n h)
  value_later ins (value.Struct ns) h = ap of_words (worths_later ins ns.items h)
  value_later ins (value.Pointer p) h = ap (λ (a : Address). seen (cell_of a) ∷ []) (address_later ins p h)

  pub value_stands_later : (v : WordValue) → ValueStands old v → ValueStands new v
  value_stands_later value.Nothing h = tt
  value_stands_later (value.Word n) h = omega (arith, h, Extends-length f)
  value_stands_later (value.Struct ns) h = λ k d j. omega (arith, h k d j, Extends-length f)
  value_stands_later (value.Pointer p) h = IsPointer-later f p h

  pub picture_later : (ins : List ℕ) (past : Node) (board : Board) (returned : List Node) → past.index < length old → IsBoard old board → All (λ (n : Node). n.index < length old) returned →
      picture new ins past board returned ≡ picture old ins past board returned
  picture_later ins past board returned within is all =
      ap (λ (x : ℕ). record { past = x; objects = map (map seen) (objects_held new ins board); returned = of_words (worths new ins returned) }) (worth-later f ins past within)
      ∙ ap (λ (x : List (List Cell)). record { past = worth old ins past; objects = map (map seen) x; returned = of_words (worths new ins returned) }) (objects_held-later f ins board is)
      ∙ ap (λ (x : List ℕ). record { past = worth old ins past; objects = map (map seen) (objects_held old ins board); returned = of_words x }) (worths_later ins returned all)

-- ---- any number of steps

pub Grows_none : (regions : ℕ) (es : List Entry) → Grows regions es es
Grows_none regions es = record { steps = []; grown = refl }

pub Grows_one : (regions region : ℕ) (old new : List Entry) → region < regions → Extends region old new → Grows regions old new
Grows_one regions region old new h f = record { steps = record { region = region; entries = new } ∷ []; grown = (h, f, refl) }

grown_then : (regions : ℕ) (steps more : List Step) (old mid new : List Entry) → GrownBy regions steps old mid → GrownBy regions more mid new → GrownBy regions (steps ++ more) old new
grown_then regions [] more old mid new first second = subst (λ (es : List Entry). GrownBy regions more es new) first second
grown_then regions (s ∷ steps) more old mid new first second = (first.0, first.1, grown_then regions steps more s.entries mid new first.2 second)

pub Grows_then : (regions : ℕ) (old mid new : List Entry) → Grows regions old mid → Grows regions mid new → Grows regions old new
Grows_then regions old mid new first second = record { steps = first.steps ++ second.steps; grown = grown_then regions first.steps second.steps old mid new first.grown second.grown }

-- what every step keeps is kept
pub grown_keeps : (P : List Entry → Type 0) → ((region : ℕ) (a b : List Entry) → Extends region a b → P a → P b) → (regions : ℕ) (steps : List Step) (old new : List Entry) → GrownBy regions steps old new → P old → P new
grown_keeps P step regions [] old new g h = subst P (sym g) h
grown_keeps P step regions (s ∷ steps) old new g h = grown_keeps P step regions steps s.entries new g.2 (step s.region old s.entries g.1 h)

module _ {regions : ℕ} {old new : List Entry} (f : Grows regions old new) where
  pub Grows_fit : (ins : List ℕ) → InputsFit old ins → InputsFit new ins
  Grows_fit ins fit = grown_keeps (λ (es : List Entry). InputsFit es ins) (λ r a b g h. Extends-inputs g ins h) regions f.steps old new f.grown fit

  pub Grows_stands : (w : Width) (n : Node) → Stands old w n → Stands new w n
  Grows_stands w n is = grown_keeps (λ (es : List Entry). Stands es w n) (λ r a b g h. Stands-later g w n h) regions f.steps old new f.grown is

  pub Grows_worth : (ins : List ℕ) (n : Node) → n.index < length old → worth new ins n ≡ worth old ins n
  Grows_worth ins n within =
      (grown_keeps (λ (es : List Entry). (n.index < length es) × (worth es ins n ≡ worth old ins n)) (λ r a b g h. (omega (arith, h.0, Extends-length g), worth-later g ins n h.0 ∙ h.1)) regions f.steps old new f.grown (within, refl)).1
