-- Objects and cells as lists.
use Rattle.std.proofs.Common.{◌≡◌, ℕ, suc, ◌+◌, ◌-◌, ◌<◌, ◌≤◌, append_assoc, List, [], ◌∷◌, ◌++◌, get_or, set, map, length, refl, sym, ap, ◌∙◌, arith}
use Rattle.std.proofs.lemmas.List.{map-set, get_or-map, set_past}
use Rattle.c_meaning.specs.declared.values.Cell.{Cell}
use Rattle.c_meaning.specs.declared.values.Cell.TheVariants as cell
use Rattle.c_meaning.specs.State as meaning
use Rattle.c_state.specs.declared.state.Stored.{Stored}
use Rattle.c_state.specs.Views.{stored_as}

-- one object changed, seen as objects of the meaning
pub object_changed : (f : meaning.Stored → meaning.Stored) (objects : List Stored) (k : ℕ) (old new : Stored) → k < length objects → old ≡ get_or objects k old → stored_as new ≡ f (stored_as old) → map stored_as (set objects k new) ≡ set (map stored_as objects) k (f (get_or (map stored_as objects) k meaning.no_object))
object_changed f objects k old new h is e =
    map-set stored_as objects k new
    ∙ ap (λ (s : meaning.Stored). set (map stored_as objects) k s)
    (e ∙ ap f (ap stored_as is ∙ sym (get_or-map stored_as objects k old meaning.no_object h)))

-- cells past the last are not written
pub overwritten-past : (cells : List Cell) (at : ℕ) (values : List Cell) → length cells ≤ at → meaning.overwritten cells at values ≡ cells
overwritten-past cells at [] h = refl
overwritten-past cells at (value ∷ values) h =
    ap (λ (left : List Cell). meaning.overwritten left (at + 1) values) (set_past cells at value h)
    ∙ overwritten-past cells (at + 1) values (omega arith)

-- one more cell copied
pub copied_more : (cells done : List Cell) (count n at : ℕ) (c : Cell) → n < count → c ≡ get_or cells (at + n) cell.Unset → (done ++ c ∷ []) ++ meaning.cells_from (count - (n + 1)) (at + (n + 1)) cells ≡ done ++ meaning.cells_from (count - n) (at + n) cells
copied_more cells done count n at c h is =
    let more : count - n ≡ suc (count - (n + 1)) = omega arith in
    append_assoc done (c ∷ []) (meaning.cells_from (count - (n + 1)) (at + (n + 1)) cells)
    ∙ ap (λ (rest : List Cell). done ++ rest)
    (ap (λ (x : Cell). x ∷ meaning.cells_from (count - (n + 1)) (at + (n + 1)) cells) is
    ∙ ap (λ (m : ℕ). get_or cells (at + n) cell.Unset ∷ meaning.cells_from (count - (n + 1)) m cells) (omega arith)
    ∙ ap (λ (m : ℕ). meaning.cells_from m (at + n) cells) (sym more))
